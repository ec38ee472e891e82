use Rattle.profile.proofs.Prefixing.{none_read, in_a_row, stopped_there}
use Rattle.profile.proofs.reading.read_in.Goals as goal

pub loop-added-init : goal.loop-added-init
loop-added-init g c = none_read g.M.Metric.measure _ _ _

pub loop-added-preserved : goal.loop-added-preserved
loop-added-preserved g c = in_a_row g.M.Metric.measure c.loop-added.invariant c.in_default.ensures

pub returns-in-Err-clause-reads : goal.returns-in-Err-clause-reads
returns-in-Err-clause-reads g c = stopped_there g.M.Metric.measure c.loop-added-test.true c.loop-added.invariant c.in-Err.ensures
