-- What the first rows of a table mean: their contexts, and the summary that they show. Assumes nothing.
use Rattle.std.specs.Prelude.{ℕ, zero, suc, List, [], ◌∷◌, get_or, slice_index_or}
use Rattle.model.specs.Positions.{Path, Position, at, same}
use Rattle.metrics.specs.Measures.{Measure}
use Rattle.metrics.specs.Joins.{joins}
use Rattle.model.specs.Summaries.{Summary, any_of}
use Rattle.rows.specs.Shapes.{Shape, blank}

-- the functions of the row k and of the d - 1 rows above it, innermost first
abbrev pub trail : List Shape → ℕ → ℕ → Path
trail s zero k = []
trail s (suc d) k = (get_or s k blank).function ∷ trail s d (get_or s k blank).parent

-- a row's context: its level, and the path read along its parents
abbrev pub context : List Shape → ℕ → Position
context s k = at (get_or s k blank).level (trail s (get_or s k blank).depth k)

-- the first n rows, the last first
abbrev pub listed : {M : Type 0} → M → List Shape → List M → ℕ → List (Position × M)
listed none s v zero = []
listed none s v (suc n) = (context s n, slice_index_or v n none) ∷ listed none s v n

-- the summary that they show, where the open row is cur
abbrev pub reading : {M : Type 0} → Measure M → List Shape → List M → ℕ → ℕ → Summary M
reading m s v n cur = record {
  end = context s cur;
  row = λ x. any_of (same x) (listed m.none s v n);
  value = λ x. joins m (same x) (listed m.none s v n);
}

-- the contexts of the first n rows, the last first
abbrev pub contexts : List Shape → ℕ → List Position
contexts s zero = []
contexts s (suc n) = context s n ∷ contexts s n
