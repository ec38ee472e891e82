-- What one call of a source answers and leaves, for every format. Assumes nothing.
use Rattle.std.proofs.Common.{◌≡◌, ℕ, Some, None, Ok, Err, Option, Result, refl, ap}
use Rattle.trace.specs.Faults.{fault_at}
use Rattle.trace.specs.Sources.{answered, rest}
use Rattle.trace.specs.Meanings.{Meaning, nothing, followed, found_at}
use Rattle.trace.specs.declared.fault.Cause.{Cause}
use Rattle.trace.specs.declared.fault.Fault.{Fault}
use Rattle.trace.specs.declared.record.Record.{Record}

-- m was left before and m' after, and r was answered
pub record Stepped (m m' : Meaning) (r : Result (Option Record) Fault) : Type 0 where
  pub answer : r ≡ answered m.records m.ending
  pub rest : m'.records ≡ rest m.records
  pub ending : m'.ending ≡ m.ending

-- nothing is left
pub at_end : (m : Meaning) → m ≡ nothing → Stepped m m (Ok None)
at_end m e = rw e (record { answer = refl; rest = refl; ending = refl })

-- what is read is at fault
pub at_fault : (m more : Meaning) (x : Result Record Cause) (p : ℕ) (f : Fault) → m ≡ followed x p more → Err f ≡ found_at x p → Stepped m m (Err f)
at_fault m more (Ok r) p f e h = cc
at_fault m more (Err c) p f e h = let k : f ≡ fault_at c p = cc in rw e (record { answer = ap Err k; rest = refl; ending = refl })

-- what is read is a record
pub at_record : (m more : Meaning) (x : Result Record Cause) (p : ℕ) (r : Record) → m ≡ followed x p more → Ok r ≡ found_at x p → Stepped m more (Ok (Some r))
at_record m more (Ok y) p r e h = let k : r ≡ y = cc in rw e (record { answer = ap (λ z. Ok (Some z)) k; rest = refl; ending = refl })
at_record m more (Err c) p r e h = cc
