-- What was read, step after step, with the place of its faults. Assumes nothing.
use Rattle.std.proofs.Common.{◌≡◌, ℕ, Ok, Err, Result, MatchResult, IsErrAnd, sym, refl, ap, ◌∙◌}
use Rattle.std.proofs.lemmas.Result.{err_from_is_err_and}
use Rattle.trace.specs.Faults.{fault_at}
use Rattle.trace.specs.Text.{and_then}
use Rattle.trace.specs.Meanings.{found_at}
use Rattle.trace.specs.declared.fault.Cause.{Cause}
use Rattle.trace.specs.declared.fault.Fault.{Fault}

-- what `map_err` makes of what was read, where its closure makes the fault at p of a cause
pub placed : {X : Type 0} {Q : Cause → Fault → Type 0} (r : Result X Cause) (s : Result X Fault) (p : ℕ) → MatchResult r (λ x. s ≡ Ok x) (λ c. IsErrAnd s (Q c)) → ((c : Cause) (f : Fault) → Q c f → f ≡ fault_at c p) → s ≡ found_at r p
placed (Ok x) s p h q = h
placed (Err c) s p h q = let k = err_from_is_err_and s h in k.1 ∙ ap Err (q c k.0 k.2)

-- what was found is what was read
pub found_ok : {X : Type 0} (r : Result X Cause) (p : ℕ) (x : X) → Ok x ≡ found_at r p → r ≡ Ok x
found_ok (Ok y) p x h = let k : x ≡ y = cc in ap Ok (sym k)
found_ok (Err c) p x h = cc

pub found_err : {X : Type 0} (r : Result X Cause) (p : ℕ) (f : Fault) → Err f ≡ found_at r p → (c : Cause) × (r ≡ Err c) × (f ≡ fault_at c p)
found_err (Ok y) p f h = cc
found_err (Err c) p f h = (c, refl, cc)

-- a fault of the first step is the fault of both
pub fault_through : {X Y : Type 0} (x : Result X Cause) (g : X → Result Y Cause) (p : ℕ) (f : Fault) → Err f ≡ found_at x p → Err f ≡ found_at (and_then x g) p
fault_through (Ok v) g p f h = cc
fault_through (Err c) g p f h = let k : f ≡ fault_at c p = cc in ap Err k

-- a value of the first step goes on to the second
pub value_through : {X Y : Type 0} (x : Result X Cause) (g : X → Result Y Cause) (p : ℕ) (v : X) → Ok v ≡ found_at x p → found_at (g v) p ≡ found_at (and_then x g) p
value_through (Ok w) g p v h = let k : v ≡ w = cc in ap (λ u. found_at (g u) p) k
value_through (Err c) g p v h = cc
