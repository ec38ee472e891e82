-- What a shape column is: the rows of a tree, each with its last function and the number of its parent. Assumes nothing.
use Rattle.std.specs.Prelude.{◌≡◌, ℕ, zero, suc, ◌<◌, ◌≤◌, cond, List, length, ◌==◌, ◌≢◌, slice_index_or}
use Rattle.rows.specs.declared.shape.ShapeRow.{ShapeRow}

-- what stands beyond a column's end
abbrev pub no_row : ShapeRow
no_row = record { function = 0; parent = 0 }

-- the last function of the row i
abbrev pub function_at : List ShapeRow → ℕ → ℕ
function_at s i = (slice_index_or s i no_row).function

-- the number of the row above the row i
abbrev pub parent_at : List ShapeRow → ℕ → ℕ
parent_at s i = (slice_index_or s i no_row).parent

-- the steps from a row up to row 0, if `most` suffice
abbrev pub steps_up : ℕ → List ShapeRow → ℕ → ℕ
steps_up zero s i = 0
steps_up (suc most) s i = cond (i == 0) 0 (suc (steps_up most s (parent_at s i)))

-- row 0 has depth 0, another row one more than its parent; where parents stand above, i steps suffice
abbrev pub depth_of : List ShapeRow → ℕ → ℕ
depth_of s i = steps_up i s i

-- 1 to 65,535 rows, a root, and below it rows with a function whose parents stand above them
pub record IsRooted (s : List ShapeRow) : Type 0 where
  pub some : 0 < length s
  pub most : length s ≤ 65535
  pub root_function : function_at s 0 ≡ 0
  pub root_parent : parent_at s 0 ≡ 0
  pub called : (i : ℕ) → 0 < i → i < length s → 0 < function_at s i
  pub above : (i : ℕ) → 0 < i → i < length s → parent_at s i < i

-- the rows of a tree: rooted, with paths of at most 512
pub record IsShape (s : List ShapeRow) : Type 0 where
  pub rooted : IsRooted s
  pub shallow : (i : ℕ) → i < length s → depth_of s i ≤ 512
  -- no two rows share parent and function
  pub apart : (i j : ℕ) → i < j → j < length s → parent_at s i ≡ parent_at s j → function_at s i ≢ function_at s j
