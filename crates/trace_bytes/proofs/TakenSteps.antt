-- What is read takes bytes that are there. Assumes nothing.
use Rattle.std.proofs.Common.{◌≡◌, ℕ, zero, suc, ◌+◌, ◌-◌, ◌*◌, ◌≤◌, Bool, true, false, cond, ltb, leb, List, [], ◌∷◌, length, drop, Ok, Err, Result, refl, ap, arith, length-drop}
use Rattle.trace.specs.Fields.{Numbers, field_count, made}
use Rattle.trace.specs.Kinds.{kind_of_byte}
use Rattle.trace.specs.Text.{and_then}
use Rattle.trace.specs.declared.fault.Cause.{Cause}
use Rattle.trace.specs.declared.fault.Cause.TheVariants.{TooLarge}
use Rattle.trace.specs.declared.record.Record.{Record}
use Rattle.trace_bytes.specs.Bytes.{fields_record, record_of}
use Rattle.trace_bytes.specs.Groups.{groups, number, numbers}

-- where two steps have a value, the first has one, and the second makes this of it
pub then_ok : {X Y : Type 0} (r : Result X Cause) (f : X → Result Y Cause) (y : Y) → and_then r f ≡ Ok y → (x : X) × (r ≡ Ok x) × (f x ≡ Ok y)
then_ok (Ok x) f y e = (x, refl, e)
then_ok (Err c) f y e = cc

-- how many bytes were taken
pub taken_is : {X : Type 0} (x : X) (n : ℕ) (v : X × ℕ) → ◌≡◌ {A = Result (X × ℕ) Cause} (Ok (x, n)) (Ok v) → n ≡ v.1
taken_is x n v e = let k : (x, n) ≡ v = cc in ap (λ w. w.1) k

-- a group that others may follow, of which r is read
abbrev pub grouped : Bool → ℕ → Result (ℕ × ℕ) Cause → Result (ℕ × ℕ) Cause
grouped t b r = cond t (Ok (b, 1)) (and_then r (λ v. Ok ((b - 128) + 128 * v.0, v.1 + 1)))

top_there : (t : Bool) (b : ℕ) (bs : List ℕ) (v : ℕ × ℕ) → cond t (Ok (b, 1)) (Err TooLarge) ≡ Ok v → (1 ≤ v.1) × (v.1 ≤ suc (length bs))
top_there true b bs v e = let k : 1 ≡ v.1 = taken_is b 1 v e in (omega arith, omega arith)
top_there false b bs v e = cc

grouped_there : (t : Bool) (b : ℕ) (bs : List ℕ) (r : Result (ℕ × ℕ) Cause) (v : ℕ × ℕ) → ((w : ℕ × ℕ) → r ≡ Ok w → (1 ≤ w.1) × (w.1 ≤ length bs)) → grouped t b r ≡ Ok v → (1 ≤ v.1) × (v.1 ≤ suc (length bs))
grouped_there true b bs r v h e = let k : 1 ≡ v.1 = taken_is b 1 v e in (omega arith, omega arith)
grouped_there false b bs (Ok w) v h e =
    let k : w.1 + 1 ≡ v.1 = taken_is ((b - 128) + 128 * w.0) (w.1 + 1) v e in
    let l : (1 ≤ w.1) × (w.1 ≤ length bs) = h w refl in
    (omega arith, omega arith)
grouped_there false b bs (Err c) v h e = cc

-- a number takes some of the bytes that are there
pub groups_there : (more : ℕ) (bs : List ℕ) (v : ℕ × ℕ) → groups more bs ≡ Ok v → (1 ≤ v.1) × (v.1 ≤ length bs)
groups_there zero [] v e = cc
groups_there (suc more) [] v e = cc
groups_there zero (b ∷ bs) v e = top_there (leb b 15) b bs v e
groups_there (suc more) (b ∷ bs) v e = grouped_there (ltb b 128) b bs (groups more bs) v (groups_there more bs) e

-- numbers that are read, in their parts
pub record Parts (n : ℕ) (bs : List ℕ) (v : Numbers (suc n) × ℕ) : Type 0 where
  pub first : ℕ × ℕ
  pub others : Numbers n × ℕ
  pub first_read : number bs ≡ Ok first
  pub others_read : numbers n (drop first.1 bs) ≡ Ok others
  pub together : ◌≡◌ {A = Result (Numbers (suc n) × ℕ) Cause} (Ok ((first.0, others.0), first.1 + others.1)) (Ok v)
  pub taken : first.1 + others.1 ≡ v.1

pub parts_of : (n : ℕ) (bs : List ℕ) (v : Numbers (suc n) × ℕ) → numbers (suc n) bs ≡ Ok v → Parts n bs v
parts_of n bs v e =
    let x = then_ok (number bs) (λ w. and_then (numbers n (drop w.1 bs)) (λ vs. Ok ((w.0, vs.0), w.1 + vs.1))) v e in
    let y = then_ok (numbers n (drop x.0.1 bs)) (λ vs. Ok ((x.0.0, vs.0), x.0.1 + vs.1)) v x.2 in
    record { first = x.0; others = y.0; first_read = x.1; others_read = y.1; together = y.2; taken = taken_is (x.0.0, y.0.0) (x.0.1 + y.0.1) v y.2 }

pub numbers_there : (n : ℕ) (bs : List ℕ) (v : Numbers n × ℕ) → numbers n bs ≡ Ok v → v.1 ≤ length bs
numbers_there zero bs v e = omega (arith, taken_is tt 0 v e)
numbers_there (suc n) bs v e =
    let x : Parts n bs v = parts_of n bs v e in
    omega (arith, (groups_there 4 bs x.first x.first_read).1, numbers_there n (drop x.first.1 bs) x.others x.others_read, length-drop x.first.1 bs)

-- what is made of a reading, and may refuse it, took as many
pub refined_ok : {X Y : Type 0} (f : X → Result Y Cause) (r : Result (X × ℕ) Cause) (v : Y × ℕ) → and_then r (λ w. and_then (f w.0) (λ y. Ok (y, w.1))) ≡ Ok v → (w : X × ℕ) × (r ≡ Ok w) × (w.1 ≡ v.1)
refined_ok f r v e =
    let x = then_ok r (λ w. and_then (f w.0) (λ y. Ok (y, w.1))) v e in
    let y = then_ok (f x.0.0) (λ y. Ok (y, x.0.1)) v x.2 in
    (x.0, x.1, taken_is y.0 x.0.1 v y.2)

-- and so does a record
pub record_there : (b : ℕ) (bs : List ℕ) (v : Record × ℕ) → record_of b bs ≡ Ok v → v.1 ≤ length bs
record_there b bs v e =
    let k = then_ok (kind_of_byte b) (λ k. fields_record k bs) v e in
    let x = refined_ok (made k.0) (numbers (field_count k.0) bs) v k.2 in
    omega (arith, numbers_there (field_count k.0) bs x.0 x.1, x.2)
