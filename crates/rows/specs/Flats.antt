-- How a summary's rows become those of its tree, in the same slice. Assumes nothing.
use Rattle.std.specs.Prelude.{◌≡◌, ℕ, ◌+◌, ◌<◌, ◌≤◌, max, cond, List, [], ◌∷◌, get_or, ◌==◌, slice_index, slice_index_or, slice_set}
use Rattle.model.specs.Positions.{Position, at, same}
use Rattle.metrics.specs.Measures.{Measure}
use Rattle.metrics.specs.Joins.{joins}
use Rattle.model.specs.Summaries.{any_of}
use Rattle.model.specs.Trees.{Tree}
use Rattle.rows.specs.Shapes.{Shape, blank}
use Rattle.rows.specs.Sound.{Table}
use Rattle.rows.specs.Steps.{grownValues}
use Rattle.rows.specs.Reading.{context, listed}
use Rattle.rows.specs.Gains.{Gains}

-- in a tree a context is its path alone: the level is 0
abbrev pub flat : Position → Position
flat x = at 0 x.path

-- the context of f below the row t
abbrev pub child_target : List Shape → ℕ → ℕ → Position
child_target s t f = at (context s t).level (f ∷ (context s t).path)

-- where a row goes, of the function f, whose parent is up
abbrev pub seat_target : List Shape → List ℕ → ℕ → ℕ → Position
seat_target s marks f up = cond (f == 0) (at 0 []) (child_target s (slice_index marks up) f)

-- the value w joined to that of the row c
abbrev pub book_at : {M : Type 0} → Measure M → List M → ℕ → M → List M
book_at m v c w = slice_set v c (m.join (slice_index_or v c m.none) w)

-- what the step of the row i needs, where the tree has c rows
pub record Ready (s : List Shape) (marks : List ℕ) (c i : ℕ) : Type 0 where
  pub some : 0 < c
  pub high : c ≤ i
  pub table : Table s c 0
  pub lower : 0 < (get_or s i blank).function → (get_or s i blank).parent < i
  pub marked : 0 < (get_or s i blank).function → slice_index marks (get_or s i blank).parent < c
  pub shallow : 0 < (get_or s i blank).function → (get_or s (slice_index marks (get_or s i blank).parent) blank).depth < 512

-- The step of the row i has put it at the tree's row r: the row is found or made, the value is joined there, and the mark says so.
pub record Seated {M : Type 0} (m : Measure M) (s s' : List Shape) (v v' : List M) (marks marks' : List ℕ) (c i r : ℕ) : Type 0 where
  pub gains : Gains m s s' (slice_set v i m.none) (grownValues m.none (slice_set v i m.none) c r) c (max c (r + 1)) 0 0 r (seat_target s marks (get_or s i blank).function (get_or s i blank).parent)
  pub near : r ≤ c
  pub booked : v' ≡ book_at m (grownValues m.none (slice_set v i m.none) c r) r (slice_index_or v i m.none)
  pub rest : (k : ℕ) → i < k → slice_index_or s' k blank ≡ slice_index_or s k blank
  pub noted : marks' ≡ slice_set marks i r

-- The first i of the rows s and v have become the first c rows of the tree; the others stand.
pub record Flattening {M : Type 0} (m : Measure M) (s s' : List Shape) (v v' : List M) (marks : List ℕ) (c i : ℕ) : Type 0 where
  pub some : 0 < c
  pub high : c ≤ i
  pub table : Table s' c 0
  pub rest : (k : ℕ) → i ≤ k → slice_index_or s' k blank ≡ slice_index_or s k blank
  pub values : (k : ℕ) → i ≤ k → slice_index_or v' k m.none ≡ slice_index_or v k m.none
  pub marked : (k : ℕ) → k < i → (slice_index marks k < c) × (context s' (slice_index marks k) ≡ flat (context s k))
  pub row : (x : Position) → any_of (same x) (listed m.none s' v' c) ≡ any_of (λ y. same x (flat y)) (listed m.none s v i)
  pub value : (x : Position) → joins m (same x) (listed m.none s' v' c) ≡ joins m (λ y. same x (flat y)) (listed m.none s v i)

-- the tree that the first n rows of a table of one level show
abbrev pub tree_reading : {M : Type 0} → Measure M → List Shape → List M → ℕ → ℕ → ℕ → Tree M
tree_reading m s v n strays opened = record {
  strays = strays;
  opened = opened;
  row = λ q. any_of (same (at 0 q)) (listed m.none s v n);
  value = λ q. joins m (same (at 0 q)) (listed m.none s v n);
}
