-- What the calls do to a table's shapes s and values v, of which n rows are in use. Assumes nothing.
use Rattle.std.specs.Prelude.{◌≡◌, ℕ, ◌+◌, ◌<◌, ◌≤◌, max, cond, List, length, get_or, Ok, Err, Result, ◌≢◌, nat_lt, slice_index_or, slice_set}
use Rattle.rows.specs.declared.rejection.Rejection.{Rejection}
use Rattle.rows.specs.declared.rejection.Rejection.TheVariants.{OutOfRange, TableSize, TooFewRows, PathTooLong}
use Rattle.rows.specs.Shapes.{Shape, blank, child}
use Rattle.rows.specs.Index.{Found}

-- a row of f below up at c, made if c is n
abbrev pub grown : List Shape → ℕ → ℕ → ℕ → ℕ → List Shape
grown s n up f c = cond (nat_lt c n) s (slice_set s n (child s up f))

-- the values then: a new row has the unit
abbrev pub grownValues : {V : Type 0} → V → List V → ℕ → ℕ → List V
grownValues none v n c = cond (nat_lt c n) v (slice_set v n none)

-- when a step to f below up is rejected
abbrev pub Refused : List Shape → ℕ → ℕ → ℕ → Rejection → Type 0
Refused s n up f OutOfRange = ⊥
Refused s n up f TableSize = ⊥
Refused s n up f PathTooLong = 512 ≤ (get_or s up blank).depth
Refused s n up f TooFewRows = ((get_or s up blank).depth < 512) × (length s ≤ n) × ((k : ℕ) → k < n → (get_or s k blank).parent ≡ up → (get_or s k blank).function ≢ f)

-- c is the row of f below up, made with the unit where there was none
pub record Reached {V : Type 0} (none : V) (s s' : List Shape) (v v' : List V) (n up f c : ℕ) : Type 0 where
  pub found : Found s n up f c
  pub shallow : (get_or s up blank).depth < 512
  pub room : c < length s
  pub shapes : s' ≡ grown s n up f c
  pub values : v' ≡ grownValues none v n c

-- what a step answers and leaves
abbrev pub Reach : {V : Type 0} → V → List Shape → List Shape → List V → List V → ℕ → ℕ → ℕ → Result ℕ Rejection → Type 0
Reach none s s' v v' n up f (Ok c) = Reached none s s' v v' n up f c
Reach none s s' v v' n up f (Err e) = (s' ≡ s) × (v' ≡ v) × Refused s n up f e

-- the row at c, found or made, has the value w joined to its own
abbrev pub bookedValues : {V : Type 0} → V → (V → V → V) → V → List V → ℕ → List V
bookedValues none op w v c = slice_set v c (op (slice_index_or v c none) w)

-- the same, with w joined to the row's value
pub record Entered {V : Type 0} (none : V) (op : V → V → V) (w : V) (s s' : List Shape) (v v' : List V) (n up f c : ℕ) : Type 0 where
  pub found : Found s n up f c
  pub shallow : (get_or s up blank).depth < 512
  pub room : c < length s
  pub shapes : s' ≡ grown s n up f c
  pub values : v' ≡ bookedValues none op w (grownValues none v n c) c

-- the same, with a value joined
abbrev pub Enter : {V : Type 0} → V → (V → V → V) → V → List Shape → List Shape → List V → List V → ℕ → ℕ → ℕ → Result ℕ Rejection → Type 0
Enter none op w s s' v v' n up f (Ok c) = Entered none op w s s' v v' n up f c
Enter none op w s s' v v' n up f (Err e) = (s' ≡ s) × (v' ≡ v) × Refused s n up f e

-- how many rows are in use then
abbrev pub Counted : ℕ → ℕ → Result ℕ Rejection → Type 0
Counted n n' (Ok c) = n' ≡ max n (c + 1)
Counted n n' (Err e) = n' ≡ n
