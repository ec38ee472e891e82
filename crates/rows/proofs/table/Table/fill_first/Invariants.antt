use Rattle.std.proofs.Common.{◌≡◌, ℕ, ◌<◌, ◌≤◌, get_or}
use Rattle.rows.specs.Shapes.{shapes}
use Rattle.rows.specs.Cells.{values}
use Rattle.rows.specs.Columns.{meanings, Filling}
use Rattle.rows.proofs.table.Table.fill_first.Given as goal

abbrev pub invariant-loop-i : goal.invariant-loop-i
invariant-loop-i g l = let m = g.M.Metric in
    Filling m.measure (shapes l.self.rows.now) (values m.means l.self.rows.now) (meanings m.means l.column) l.n l.i
    × ((k : ℕ) → l.n ≤ k → get_or (meanings m.means l.column) k m.measure.none ≡ get_or (meanings m.means l.initial.column) k m.measure.none)
    × (0 < l.i) × (l.i ≤ l.n)

abbrev pub decreases-loop-i : goal.decreases-loop-i
decreases-loop-i g l = l.i
