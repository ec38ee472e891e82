use Rattle.rows.specs.Shapes.{shapes}
use Rattle.rows.specs.Index.{chained}
use Rattle.rows.proofs.Chains.{Chasing}
use Rattle.rows.proofs.table.Table.child.Given as goal

abbrev pub invariant-loop-next : goal.invariant-loop-next
invariant-loop-next g l = Chasing (shapes l.self.rows.now) l.self.count l.up l.function (chained l.next)

abbrev pub decreases-loop-next : goal.decreases-loop-next
decreases-loop-next g l = chained l.next
