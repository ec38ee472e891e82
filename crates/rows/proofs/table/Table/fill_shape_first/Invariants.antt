use Rattle.std.proofs.Common.{◌≡◌, ℕ, ◌<◌, get_or}
use Rattle.rows.specs.Shapes.{shapes, blank}
use Rattle.rows.specs.ShapeColumn.{no_row}
use Rattle.rows.proofs.table.Table.fill_shape_first.Given as goal

abbrev pub invariant-loop-k : goal.invariant-loop-k
invariant-loop-k g l = (k : ℕ) → k < l.k → get_or l.place-items k no_row ≡ record { function = (get_or (shapes l.self.rows.now) k blank).function; parent = (get_or (shapes l.self.rows.now) k blank).parent }
