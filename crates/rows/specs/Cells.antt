-- The parts of a table's rows, each as a list by row number. Assumes nothing.
use Rattle.std.specs.Prelude.{◌≡◌, ℕ, ◌<◌, ◌≤◌, List, map, Some, None, Option, slice_index_or}
use Rattle.rows.specs.declared.row.Row.{Row}
use Rattle.rows.specs.Shapes.{Shape, blank}

-- what the values mean
abbrev pub values : {M V : Type 0} → (M → V) → List (Row M) → List V
values means rows = map (λ r. means r.value) rows

-- where rows went
abbrev pub marks : {M : Type 0} → List (Row M) → List ℕ
marks rows = map (λ r. r.mark) rows

-- the first row of the chain at each place, plus 1
abbrev pub heads : {M : Type 0} → List (Row M) → List ℕ
heads rows = map (λ r. r.head) rows

-- the row after each row in its chain, plus 1
abbrev pub links : {M : Type 0} → List (Row M) → List ℕ
links rows = map (λ r. r.next) rows

-- what is answered by number, of n rows in use: the row's shape and its value, none beyond the rows
abbrev pub Gets : {M V : Type 0} → (M → V) → V → List Shape → List V → ℕ → ℕ → Option (Shape × M) → Type 0
Gets means none s v n k None = n ≤ k
Gets means none s v n k (Some x) = (k < n) × (x.0 ≡ slice_index_or s k blank) × (means x.1 ≡ slice_index_or v k none)
