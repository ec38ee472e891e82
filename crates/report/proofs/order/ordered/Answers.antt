use Rattle.std.proofs.Common.{length, refl}
use Rattle.report.proofs.Sorting.{arranged}
use Rattle.report.proofs.order.ordered.Goals as goal

pub returns : goal.returns
returns c =
    let list = c.in_ok-order.order.items in
    let order = c.sort_unstable.new.self.items in
    let e = c.sort_unstable.ensures in
    arranged c.args.shape.now list order (length order) c.in_ok-order.ensures e.permutation refl e.sorted
