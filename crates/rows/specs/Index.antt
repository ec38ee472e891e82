-- The index of children, which lies in the rows themselves: for each place of the table a chain of the rows whose parent and function
-- have that place, the newest first. In chains a row is held as its number plus 1, and 0 is none. Assumes nothing.
use Rattle.std.specs.Prelude.{◌≡◌, ℕ, zero, suc, ◌+◌, ◌*◌, ◌%◌, ◌<◌, ◌≤◌, cond, List, length, ◌==◌, ◌≢◌, Some, None, Option, slice_index, slice_index_or}
use Rattle.rows.specs.Shapes.{Shape, blank}

-- a row as a chain holds it
abbrev pub chained : Option ℕ → ℕ
chained None = 0
chained (Some i) = suc i

-- the place of a parent and a function in a table of so many places
abbrev pub slot : ℕ → ℕ → ℕ → ℕ
slot places up f = (up * 40503 + f) % places

-- the place of the row k
abbrev pub place_of : List Shape → ℕ → ℕ
place_of s k = slot (length s) (slice_index_or s k blank).parent (slice_index_or s k blank).function

-- the last of the first n rows whose place is h, plus 1; 0 where there is none
abbrev pub newest : List Shape → ℕ → ℕ → ℕ
newest s h zero = 0
newest s h (suc n) = cond (place_of s n == h) (suc n) (newest s h n)

-- The first n rows are in their chains: the chain at h begins with the newest row there, and goes on from k to the newest before k.
pub record Indexed (s : List Shape) (heads links : List ℕ) (n : ℕ) : Type 0 where
  pub first : (h : ℕ) → h < length s → slice_index heads h ≡ newest s h n
  pub after : (k : ℕ) → k < n → slice_index links k ≡ newest s (place_of s k) k

-- r is the row of f below up among the first count rows, or count where there is none
pub record Found (s : List Shape) (count up f r : ℕ) : Type 0 where
  pub within : r ≤ count
  pub is_parent : r < count → (slice_index_or s r blank).parent ≡ up
  pub is_function : r < count → (slice_index_or s r blank).function ≡ f
  pub absent : count ≤ r → (k : ℕ) → k < count → (slice_index_or s k blank).parent ≡ up → (slice_index_or s k blank).function ≢ f

-- what a search for the row of f below up among the first count rows answers
abbrev pub Finds : List Shape → ℕ → ℕ → ℕ → Option ℕ → Type 0
Finds s count up f (Some r) = (r < count) × Found s count up f r
Finds s count up f None = Found s count up f count
