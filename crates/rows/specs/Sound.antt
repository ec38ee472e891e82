-- What always holds of a summary's rows. Assumes nothing.
use Rattle.std.specs.Prelude.{◌≡◌, ℕ, zero, suc, ◌+◌, ◌<◌, ◌≤◌, cond, List, length, ◌==◌, slice_index_or}
use Rattle.rows.specs.Shapes.{Shape, blank}

-- how many of the first n rows are root rows, those with the empty path
abbrev pub roots : List Shape → ℕ → ℕ
roots s zero = 0
roots s (suc n) = cond ((slice_index_or s n blank).function == 0) (suc (roots s n)) (roots s n)

-- a root row is its own parent, and its level is the number of root rows before it
pub record Root (s : List Shape) (k : ℕ) : Type 0 where
  pub parent : (slice_index_or s k blank).parent ≡ k
  pub depth : (slice_index_or s k blank).depth ≡ 0
  pub level : (slice_index_or s k blank).level ≡ roots s k

-- any other row comes after its parent, is of its level and one deeper
pub record Child (s : List Shape) (k : ℕ) : Type 0 where
  pub parent : (slice_index_or s k blank).parent < k
  pub level : (slice_index_or s k blank).level ≡ (slice_index_or s (slice_index_or s k blank).parent blank).level
  pub depth : (slice_index_or s k blank).depth ≡ (slice_index_or s (slice_index_or s k blank).parent blank).depth + 1

-- a row of one of these two kinds, with a path of at most 512
pub record Good (s : List Shape) (k : ℕ) : Type 0 where
  pub depth : (slice_index_or s k blank).depth ≤ 512
  pub root : (slice_index_or s k blank).function ≡ 0 → Root s k
  pub child : 0 < (slice_index_or s k blank).function → Child s k

-- The first count rows are a table of the levels 0 to top: no two of them are of one function below one parent.
pub record Table (s : List Shape) (count top : ℕ) : Type 0 where
  pub fits : count ≤ length s
  pub good : (k : ℕ) → k < count → Good s k
  pub apart : (j k : ℕ) → j < count → k < count → 0 < (slice_index_or s j blank).function → (slice_index_or s j blank).function ≡ (slice_index_or s k blank).function → (slice_index_or s j blank).parent ≡ (slice_index_or s k blank).parent → j ≡ k
  pub levels : roots s count ≡ top + 1

-- The same, and the row of the open path is one of them, of the last level.
pub record Sound (s : List Shape) (count level current : ℕ) : Type 0 where
  pub table : Table s count level
  pub opened : current < count
  pub here : (slice_index_or s current blank).level ≡ level
