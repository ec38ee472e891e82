use Rattle.model.specs.Positions.{same, start}
use Rattle.model.specs.Summaries.{bookings}
use Rattle.model.proofs.InOrder.{in_order}
use Rattle.model.proofs.Joined.{summary_append}
use Rattle.model.proofs.Added.{rows_stand, adds_stand}
use Rattle.model.proofs.Prefixes.{prefixes_stand}
use Rattle.model.proofs.Limits.{counted_stands}
use Rattle.model.proofs.Rowless.{rowless_stands}
use Rattle.model.proofs.summary_laws.Goals as goal

pub returns : goal.returns
returns g c =
    let laws = g.met.M.Metric.lawful in
    let m = g.M.Metric.measure in
    record {
      in_order = λ xs x. in_order laws (same x) (bookings m start xs);
      joins = summary_append _ laws;
      rows = rows_stand laws;
      adds = adds_stand laws;
      prefixes = prefixes_stand m;
      counted = counted_stands m;
      rowless = rowless_stands laws;
    }
