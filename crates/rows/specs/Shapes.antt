-- A row without its value is its shape: its level, the last function of its path (0 where that is empty), the row of the path without
-- that function (itself where there is none), and the path's length. Assumes nothing.
use Rattle.std.specs.Prelude.{ℕ, ◌+◌, List, map, slice_index_or}
use Rattle.rows.specs.declared.row.Row.{Row}
pub use Rattle.rows.specs.declared.row.Shape.{Shape}

-- the shapes of a table's rows, by row number
abbrev pub shapes : {M : Type 0} → List (Row M) → List Shape
shapes rows = map (λ r. r.shape) rows

-- what stands beyond a list's end
abbrev pub blank : Shape
blank = record { level = 0; function = 0; parent = 0; depth = 0 }

-- the row of f below up
abbrev pub child : List Shape → ℕ → ℕ → Shape
child s up f = record { level = (slice_index_or s up blank).level; function = f; parent = up; depth = (slice_index_or s up blank).depth + 1 }

-- the row n with the empty path, of a level
abbrev pub root : ℕ → ℕ → Shape
root level n = record { level = level; function = 0; parent = n; depth = 0 }
