use Rattle.std.proofs.Common.{◌≡◌, ℕ, ◌<◌, get_or}
use Rattle.rows.specs.Shapes.{shapes}
use Rattle.rows.specs.Cells.{values, marks, heads}
use Rattle.rows.proofs.index.clear.Given as goal

abbrev pub invariant-loop-row : goal.invariant-loop-row
invariant-loop-row g l =
    let m = g.M.Metric in
    (shapes l.rows ≡ shapes l.initial.rows) × (values m.means l.rows ≡ values m.means l.initial.rows) × (marks l.rows ≡ marks l.initial.rows)
    × ((k : ℕ) → k < l.row-index → get_or (heads l.rows) k 0 ≡ 0)
