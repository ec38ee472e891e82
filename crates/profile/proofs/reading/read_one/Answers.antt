use Rattle.std.proofs.Common.{rules}
use Rattle.std.proofs.lemmas.Result.{err_from_is_err_and}
use Rattle.profile.proofs.Prefixing.{one_added, one_refused, one_ended, one_faulted}
use Rattle.profile.proofs.reading.read_one.Goals as goal

pub returns-in_err-add-in-Ok-Some : goal.returns-in_err-add-in-Ok-Some
returns-in_err-add-in-Ok-Some g c =
    let stopped = err_from_is_err_and c.from_residual.result c.from_residual.ensures.1 in
    rw (stopped.1, stopped.2) (one_refused g.M.Metric.measure _ _ _ _ _ _ c.in-Ok-Some.«record» _ (search rules) c.next.ensures.rest c.next.ensures.ending c.in_err-add-in-Ok-Some.ensures)

pub returns-in_ok-add-in-Ok-Some : goal.returns-in_ok-add-in-Ok-Some
returns-in_ok-add-in-Ok-Some g c = one_added g.M.Metric.measure _ _ _ _ _ _ c.in-Ok-Some.«record» (search rules) c.next.ensures.rest c.next.ensures.ending c.in_ok-add-in-Ok-Some.ensures

pub returns-in-Ok-None : goal.returns-in-Ok-None
returns-in-Ok-None g c = one_ended g.M.Metric.measure _ _ _ _ _ (search rules) c.next.ensures.rest c.next.ensures.ending

pub returns-in-Err : goal.returns-in-Err
returns-in-Err g c = rw c.from.ensures (one_faulted g.M.Metric.measure _ _ _ _ _ c.in-Err.fault (search rules) c.next.ensures.rest c.next.ensures.ending)
