-- How a column comes to have each row's inclusive value. Assumes nothing.
use Rattle.std.specs.Prelude.{◌≡◌, ℕ, zero, suc, ◌<◌, ◌≤◌, Bool, cond, List, [], ◌∷◌, map, length, get_or, ◌==◌, nat_lt, slice_index_or, slice_set}
use Rattle.metrics.specs.Measures.{Measure}
use Rattle.metrics.specs.Joins.{joins}
use Rattle.model.specs.Positions.{Path}
use Rattle.model.specs.Trees.{begins, inclusive}
use Rattle.rows.specs.declared.shape.ShapeRow.{ShapeRow}
use Rattle.rows.specs.ShapeColumn.{no_row}
use Rattle.rows.specs.Shapes.{Shape, blank}
use Rattle.rows.specs.Reading.{context, listed}

-- the first n values by number, the last first
abbrev pub numbered : {M : Type 0} → M → List M → ℕ → List (ℕ × M)
numbered none v zero = []
numbered none v (suc n) = (n, slice_index_or v n none) ∷ numbered none v n

-- where j's value stands when the rows from i on have handed theirs up to their parents
abbrev pub holder : List Shape → ℕ → ℕ → ℕ → ℕ
holder s i zero j = j
holder s i (suc d) j = cond (nat_lt j i) j (holder s i d (get_or s j blank).parent)

-- whether j's value stands at k then
abbrev pub stands : List Shape → ℕ → ℕ → ℕ → Bool
stands s i k j = holder s i (get_or s j blank).depth j == k

-- the join over the rows whose path begins with that of the row k
abbrev pub inclusive_of : {M : Type 0} → Measure M → List Shape → List M → ℕ → ℕ → M
inclusive_of m s v n k = joins m (λ x. begins (context s k).path x.path) (listed m.none s v n)

-- the rows from i on have handed theirs up
pub record Filling {M : Type 0} (m : Measure M) (s : List Shape) (v col : List M) (n i : ℕ) : Type 0 where
  pub long : n ≤ length col
  pub below : (k : ℕ) → k < n → k < i → slice_index_or col k m.none ≡ joins m (stands s i k) (numbered m.none v n)
  pub above : (k : ℕ) → k < n → i ≤ k → slice_index_or col k m.none ≡ inclusive_of m s v n k

-- what the values of a column mean
abbrev pub meanings : {M V : Type 0} → (M → V) → List M → List V
meanings means column = map means column

-- the value at r joined to that at p
abbrev pub handed : {M : Type 0} → Measure M → List M → ℕ → ℕ → List M
handed m col p r = slice_set col p (m.join (slice_index_or col p m.none) (slice_index_or col r m.none))

-- the first n places have what v has there, and the others keep what they held
pub record Copied {M : Type 0} (none : M) (v col col' : List M) (n : ℕ) : Type 0 where
  pub copied : (k : ℕ) → k < n → slice_index_or col' k none ≡ slice_index_or v k none
  pub rest : (k : ℕ) → n ≤ k → slice_index_or col' k none ≡ slice_index_or col k none

-- each of the first n places has its row's inclusive value, and the others keep what they held
pub record Filled {M : Type 0} (m : Measure M) (s : List Shape) (v col col' : List M) (n : ℕ) : Type 0 where
  pub filled : (k : ℕ) → k < n → slice_index_or col' k m.none ≡ inclusive_of m s v n k
  pub rest : (k : ℕ) → n ≤ k → slice_index_or col' k m.none ≡ slice_index_or col k m.none

-- the rows of a tree by path, the last first
abbrev pub leaves : {M : Type 0} → M → List Shape → List M → ℕ → List (Path × M)
leaves none s v zero = []
leaves none s v (suc n) = ((context s n).path, slice_index_or v n none) ∷ leaves none s v n

-- the column filled, in the words of trees
pub record Included {M : Type 0} (m : Measure M) (s : List Shape) (v col col' : List M) (n : ℕ) : Type 0 where
  pub filled : (k : ℕ) → k < n → slice_index_or col' k m.none ≡ inclusive m (leaves m.none s v n) (context s k).path
  pub rest : (k : ℕ) → n ≤ k → slice_index_or col' k m.none ≡ slice_index_or col k m.none

-- each of the first n places has its row's function and parent, and the others keep what they held
pub record Shaped (s : List Shape) (col col' : List ShapeRow) (n : ℕ) : Type 0 where
  pub function : (k : ℕ) → k < n → (get_or col' k no_row).function ≡ (get_or s k blank).function
  pub parent : (k : ℕ) → k < n → (get_or col' k no_row).parent ≡ (get_or s k blank).parent
  pub rest : (k : ℕ) → n ≤ k → slice_index_or col' k no_row ≡ slice_index_or col k no_row
  pub long : length col' ≡ length col
