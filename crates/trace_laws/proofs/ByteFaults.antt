-- Where bytes have a fault, what they mean before it, and what they mean with others after them. Assumes nothing.
use Rattle.std.proofs.Common.{◌≡◌, ℕ, zero, suc, ◌+◌, ◌-◌, ◌<◌, ◌≤◌, List, [], ◌∷◌, ◌++◌, length, take, Ok, Err, Result, sym, refl, ap, ◌∙◌, arith}
use Rattle.trace.specs.Faults.{fault_at}
use Rattle.trace.specs.Meanings.{Meaning}
use Rattle.trace.specs.Sources.{Ending}
use Rattle.trace.specs.declared.fault.Cause.{Cause}
use Rattle.trace.specs.declared.fault.Cause.TheVariants.{CutShort}
use Rattle.trace.specs.declared.fault.Fault.{Fault}
use Rattle.trace.specs.declared.record.Record.{Record}
use Rattle.trace_bytes.specs.Bytes.{record_of, record_then, meaning_past}
use Rattle.trace_laws.specs.ByteLaws.{BytesWithin, BytesBefore, BytesAfter}
use Rattle.trace_laws.specs.Writing.{whole}
use Rattle.trace_laws.proofs.ByteReading.{record_steady}

-- the end is no fault
no_fault : (f : Fault) → ◌≡◌ {A = Ending} (Ok tt) (Err f) → ⊥
no_fault f e = cc

-- a fault that arises at p
fault_is : (c : Cause) (p : ℕ) (f : Fault) → ◌≡◌ {A = Ending} (Err (fault_at c p)) (Err f) → fault_at c p ≡ f
fault_is c p f e = cc

-- what follows the byte of a record's kind at place p, past n bytes of its fields
abbrev following : ℕ → List ℕ → ℕ → Meaning
following p bs n = meaning_past n (p + 1) bs

-- a meaning that ends in this fault
abbrev Faulty : Meaning → Fault → Type 0
Faulty m f = m.ending ≡ Err f

-- The place of a fault lies past the n bytes of the record before, and within the bytes.
abbrev Between : ℕ → ℕ → List ℕ → Fault → Type 0
Between n p bs f = (p + n ≤ f.place) × (f.place < p + length bs)

then_within : (r : Result (Record × ℕ) Cause) (p b : ℕ) (bs : List ℕ) (f : Fault) → ((n : ℕ) → Faulty (following p bs n) f → Between n (p + 1) bs f) → Faulty (record_then r p (following p bs)) f → Between 0 p (b ∷ bs) f
then_within (Ok x) p b bs f h e = let k : Between x.1 (p + 1) bs f = h x.1 e in (omega arith, omega arith)
then_within (Err c) p b bs f h e = let k : p ≡ f.place = ap (λ g. g.place) (fault_is c p f e) in (omega arith, omega arith)

past_within : (n p : ℕ) (bs : List ℕ) (f : Fault) → Faulty (meaning_past n p bs) f → Between n p bs f
past_within zero p [] f e = absurd (no_fault f e)
past_within (suc n) p [] f e = absurd (no_fault f e)
past_within zero p (b ∷ bs) f e = then_within (record_of b bs) p b bs f (λ n. past_within n (p + 1) bs f) e
past_within (suc n) p (b ∷ bs) f e = let k : Between n (p + 1) bs f = past_within n (p + 1) bs f e in (omega arith, omega arith)

pub bytes_within : BytesWithin
bytes_within bs f e = omega (arith, (past_within 0 0 bs f e).1)

-- The bytes before a place past the first byte have that byte.
take_past : (p q b : ℕ) (bs : List ℕ) → p + 1 ≤ q → take (q - p) (b ∷ bs) ≡ b ∷ take (q - (p + 1)) bs
take_past p q b bs h = let e : q - p ≡ suc (q - (p + 1)) = omega arith in rw e

-- The bytes before a fault mean the records before it.
abbrev MeansBefore : ℕ → ℕ → List ℕ → Fault → Meaning → Type 0
MeansBefore n p bs f m = meaning_past n p (take (f.place - p) bs) ≡ whole m.records

then_before : (r : Result (Record × ℕ) Cause) (p b : ℕ) (bs : List ℕ) (f : Fault) → record_of b bs ≡ r → ((n : ℕ) → Faulty (following p bs n) f → MeansBefore n (p + 1) bs f (following p bs n)) → Faulty (record_then r p (following p bs)) f → MeansBefore 0 p (b ∷ bs) f (record_then r p (following p bs))
then_before (Ok x) p b bs f s h e =
    let k : Between x.1 (p + 1) bs f = past_within x.1 (p + 1) bs f e in
    let front : List ℕ = take (f.place - (p + 1)) bs in
    let first : record_of b front ≡ Ok x = (record_steady b).front bs x (f.place - (p + 1)) s (omega arith) in
    ap (meaning_past 0 p) (take_past p f.place b bs (omega arith)) ∙ (ap (λ y. record_then y p (following p front)) first ∙ ap (λ m. record_then (Ok x) p (λ n. m)) (h x.1 e))
then_before (Err c) p b bs f s h e =
    let k : p ≡ f.place = ap (λ g. g.place) (fault_is c p f e) in
    let none : f.place - p ≡ 0 = omega arith in
    rw none

past_before : (n p : ℕ) (bs : List ℕ) (f : Fault) → Faulty (meaning_past n p bs) f → MeansBefore n p bs f (meaning_past n p bs)
past_before zero p [] f e = absurd (no_fault f e)
past_before (suc n) p [] f e = absurd (no_fault f e)
past_before zero p (b ∷ bs) f e = then_before (record_of b bs) p b bs f refl (λ n. past_before n (p + 1) bs f) e
past_before (suc n) p (b ∷ bs) f e =
    let k : Between n (p + 1) bs f = past_within n (p + 1) bs f e in
    ap (meaning_past (suc n) p) (take_past p f.place b bs (omega arith)) ∙ past_before n (p + 1) bs f e

pub bytes_before : BytesBefore
bytes_before bs f e = let k : f.place - 0 ≡ f.place = omega arith in rw k at (past_before 0 0 bs f e)

-- Bytes with a fault mean the same with more bytes after them, unless they were cut short.
not_short : (r : Result (Record × ℕ) Cause) (p : ℕ) (m : ℕ → Meaning) (f : Fault) → Faulty (record_then r p m) f → (f.cause ≡ CutShort → ⊥) → r ≡ Err CutShort → ⊥
not_short (Ok x) p m f e h s = cc
not_short (Err c) p m f e h s = let k : c ≡ CutShort = cc in h (sym (ap (λ g. g.cause) (fault_is c p f e)) ∙ k)

then_after : (r : Result (Record × ℕ) Cause) (p : ℕ) (bs more : List ℕ) (f : Fault) → ((n : ℕ) → Faulty (following p bs n) f → following p (bs ++ more) n ≡ following p bs n) → Faulty (record_then r p (following p bs)) f → record_then r p (following p (bs ++ more)) ≡ record_then r p (following p bs)
then_after (Ok x) p bs more f h e = ap (λ m. record_then (Ok x) p (λ n. m)) (h x.1 e)
then_after (Err c) p bs more f h e = refl

past_after : (n p : ℕ) (bs more : List ℕ) (f : Fault) → Faulty (meaning_past n p bs) f → (f.cause ≡ CutShort → ⊥) → meaning_past n p (bs ++ more) ≡ meaning_past n p bs
past_after zero p [] more f e h = absurd (no_fault f e)
past_after (suc n) p [] more f e h = absurd (no_fault f e)
past_after zero p (b ∷ bs) more f e h =
    let first : record_of b (bs ++ more) ≡ record_of b bs = (record_steady b).longer bs more (not_short (record_of b bs) p (following p bs) f e h) in
    ap (λ r. record_then r p (following p (bs ++ more))) first ∙ then_after (record_of b bs) p bs more f (λ n k. past_after n (p + 1) bs more f k h) e
past_after (suc n) p (b ∷ bs) more f e h = past_after n (p + 1) bs more f e h

pub bytes_after : BytesAfter
bytes_after bs more f e h = past_after 0 0 bs more f e h
