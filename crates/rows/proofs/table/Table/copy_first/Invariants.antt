use Rattle.std.proofs.Common.{◌≡◌, ℕ, ◌<◌, get_or}
use Rattle.rows.specs.Cells.{values}
use Rattle.rows.specs.Columns.{meanings}
use Rattle.rows.proofs.table.Table.copy_first.Given as goal

abbrev pub invariant-loop-k : goal.invariant-loop-k
invariant-loop-k g l = let m = g.M.Metric in (k : ℕ) → k < l.k → get_or (meanings m.means l.place-items) k m.measure.none ≡ get_or (values m.means l.self.rows.now) k m.measure.none
