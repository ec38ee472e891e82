-- How many rows stand at or below a row, so that their lines find room in the column.
use Rattle.std.specs.Prelude.{ℕ, zero, suc, ◌+◌, cond, List, [], ◌∷◌, length, ◌==◌}
use Rattle.rows.specs.declared.shape.ShapeRow.{ShapeRow}
use Rattle.rows.specs.ShapeColumn.{parent_at}

abbrev pub same : ℕ → ℕ → ℕ
same j r = cond (j == r) 1 0

-- 1 where row r is met on the way from row j up, in at most `most` steps, else 0
abbrev pub under_by : ℕ → List ShapeRow → ℕ → ℕ → ℕ
under_by zero s r j = same j r
under_by (suc most) s r j = cond (j == r) 1 (under_by most s r (parent_at s j))

-- 1 where row j stands at or below row r, else 0
abbrev pub under : List ShapeRow → ℕ → ℕ → ℕ
under s r j = under_by j s r j

abbrev pub count : (ℕ → ℕ) → ℕ → ℕ
count f zero = 0
count f (suc n) = f n + count f n

-- the number of rows at or below row r
abbrev pub size_of : List ShapeRow → ℕ → ℕ
size_of s r = count (λ j. under s r j) (length s)

-- the rows at or below several rows
abbrev pub sizes_of : List ShapeRow → List ℕ → ℕ
sizes_of s [] = 0
sizes_of s (r ∷ rs) = size_of s r + sizes_of s rs
