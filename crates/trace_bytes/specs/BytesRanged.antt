-- Each record of bytes is in range. Assumes nothing.
use Rattle.std.specs.Prelude.{ℕ, zero, suc, ◌+◌, List, [], ◌∷◌, Ok, Err, Result}
use Rattle.trace.specs.Fields.{field_count, made}
use Rattle.trace.specs.FieldsRanged.{Good, made_good}
use Rattle.trace.specs.Kinds.{kind_of_byte}
use Rattle.trace.specs.Meanings.{Meaning}
use Rattle.trace.specs.Ranges.{InRange}
use Rattle.trace.specs.Sources.{Every}
use Rattle.trace.specs.Text.{and_then}
use Rattle.trace.specs.declared.fault.Cause.{Cause}
use Rattle.trace.specs.declared.record.Record.{Record}
use Rattle.trace_bytes.specs.Bytes.{record_of, record_then, meaning_past, bytes_meaning}
use Rattle.trace_bytes.specs.Groups.{numbers}

-- the record alone is in range, where there is one
abbrev SizedGood : Result (Record × ℕ) Cause → Type 0
SizedGood (Ok x) = InRange x.0
SizedGood (Err c) = Unit {0}

then_sized : {X : Type 0} (r : Result X Cause) (f : X → Result (Record × ℕ) Cause) → ((x : X) → SizedGood (f x)) → SizedGood (and_then r f)
then_sized (Ok x) f h = h x
then_sized (Err c) f h = tt

with_size : (r : Result Record Cause) (n : ℕ) → Good r → SizedGood (and_then r (λ x. Ok (x, n)))
with_size (Ok r) n h = h
with_size (Err c) n h = tt

record_good : (b : ℕ) (bs : List ℕ) → SizedGood (record_of b bs)
record_good b bs = then_sized (kind_of_byte b) _ (λ k. then_sized (numbers (field_count k) bs) _ (λ v. with_size (made k v.0) v.1 (made_good k v.0)))

then_ranged : (r : Result (Record × ℕ) Cause) (p : ℕ) (m : ℕ → Meaning) → SizedGood r → ((n : ℕ) → Every InRange (m n).records) → Every InRange (record_then r p m).records
then_ranged (Ok x) p m h t = (h, t x.1)
then_ranged (Err c) p m h t = tt

past_ranged : (n p : ℕ) (bs : List ℕ) → Every InRange (meaning_past n p bs).records
past_ranged n p [] = tt
past_ranged zero p (b ∷ bs) = then_ranged (record_of b bs) p _ (record_good b bs) (λ n. past_ranged n (p + 1) bs)
past_ranged (suc n) p (b ∷ bs) = past_ranged n (p + 1) bs

pub bytes_ranged : (p : ℕ) (bs : List ℕ) → Every InRange (bytes_meaning p bs).records
bytes_ranged p bs = past_ranged 0 p bs
