-- How a table comes to have a row for a context. Assumes nothing.
use Rattle.std.specs.Prelude.{◌≡◌, ℕ, ◌<◌, ◌≤◌, ◌||◌, List, slice_index_or}
use Rattle.model.specs.Positions.{Position, same}
use Rattle.metrics.specs.Measures.{Measure}
use Rattle.metrics.specs.Joins.{joins}
use Rattle.model.specs.Summaries.{any_of}
use Rattle.rows.specs.Shapes.{Shape, blank}
use Rattle.rows.specs.Sound.{Table}
use Rattle.rows.specs.Reading.{context, listed}

-- The first n rows become n' rows: y has a row, c, and nothing else is new; a new row has the unit.
pub record Gains {M : Type 0} (m : Measure M) (s s' : List Shape) (v v' : List M) (n n' top top' c : ℕ) (y : Position) : Type 0 where
  pub table : Table s' n' top'
  pub more : n ≤ n'
  pub inside : c < n'
  pub is : context s' c ≡ y
  pub shapes : (k : ℕ) → k < n → slice_index_or s' k blank ≡ slice_index_or s k blank
  pub values : (k : ℕ) → k < n → slice_index_or v' k m.none ≡ slice_index_or v k m.none
  pub row : (x : Position) → any_of (same x) (listed m.none s' v' n') ≡ (any_of (same x) (listed m.none s v n) || same x y)
  pub value : (x : Position) → joins m (same x) (listed m.none s' v' n') ≡ joins m (same x) (listed m.none s v n)
