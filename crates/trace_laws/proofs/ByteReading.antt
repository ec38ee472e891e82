-- Reading takes bytes that are there, depends on no others, and stays as it is where more follow. Assumes nothing.
use Rattle.std.proofs.Common.{◌≡◌, ℕ, zero, suc, ◌+◌, ◌-◌, ◌*◌, ◌≤◌, Bool, true, false, ltb, List, [], ◌∷◌, ◌++◌, length, take, drop, Ok, Err, Result, sym, refl, ap, ◌∙◌, arith}
use Rattle.std.proofs.lemmas.List.{drop-append-le, drop-take}
use Rattle.trace.specs.Fields.{Numbers, field_count, made}
use Rattle.trace.specs.Kinds.{kind_of_byte}
use Rattle.trace.specs.Text.{and_then}
use Rattle.trace.specs.declared.fault.Cause.{Cause}
use Rattle.trace.specs.declared.fault.Cause.TheVariants.{CutShort}
use Rattle.trace_bytes.proofs.TakenSteps.{taken_is, grouped, groups_there, Parts, parts_of, numbers_there, refined_ok}
use Rattle.trace_bytes.specs.Bytes.{fields_record, record_of}
use Rattle.trace_bytes.specs.Groups.{groups, number, numbers}
use Rattle.trace.specs.declared.kind.Kind.{Kind}

-- What is read of bytes, with how many of them it took.
abbrev pub Reading : Type 0 → Type 0
Reading X = List ℕ → Result (X × ℕ) Cause

-- What holds of such a reading: the bytes that it took are there, they alone would do, and more bytes only matter where it was cut short.
pub record Steady {X : Type 0} (read : Reading X) : Type 0 where
  pub there : (bs : List ℕ) (v : X × ℕ) → read bs ≡ Ok v → v.1 ≤ length bs
  pub front : (bs : List ℕ) (v : X × ℕ) (k : ℕ) → read bs ≡ Ok v → v.1 ≤ k → read (take k bs) ≡ Ok v
  pub longer : (bs more : List ℕ) → (read bs ≡ Err CutShort → ⊥) → read (bs ++ more) ≡ read bs

-- the bytes that it took would do
grouped_front : (t : Bool) (b k : ℕ) (r r' : Result (ℕ × ℕ) Cause) (v : ℕ × ℕ) → ((w : ℕ × ℕ) → r ≡ Ok w → w.1 ≤ k → r' ≡ Ok w) → grouped t b r ≡ Ok v → v.1 ≤ suc k → grouped t b r' ≡ Ok v
grouped_front true b k r r' v h e l = e
grouped_front false b k (Ok w) r' v h e l =
    let n : w.1 + 1 ≡ v.1 = taken_is ((b - 128) + 128 * w.0) (w.1 + 1) v e in
    let s : r' ≡ Ok w = h w refl (omega arith) in
    rw s e
grouped_front false b k (Err c) r' v h e l = cc

groups_front : (more : ℕ) (bs : List ℕ) (v : ℕ × ℕ) (k : ℕ) → groups more bs ≡ Ok v → v.1 ≤ k → groups more (take k bs) ≡ Ok v
groups_front more bs v zero e l = absurd (omega (arith, (groups_there more bs v e).0))
groups_front more [] v (suc k) e l = e
groups_front zero (b ∷ bs) v (suc k) e l = e
groups_front (suc more) (b ∷ bs) v (suc k) e l = grouped_front (ltb b 128) b k (groups more bs) (groups more (take k bs)) v (λ w s m. groups_front more bs w k s m) e l

-- more bytes do not matter
grouped_longer : (t : Bool) (b : ℕ) (r r' : Result (ℕ × ℕ) Cause) → ((r ≡ Err CutShort → ⊥) → r' ≡ r) → (grouped t b r ≡ Err CutShort → ⊥) → grouped t b r' ≡ grouped t b r
grouped_longer true b r r' h n = refl
grouped_longer false b r r' h n = ap (grouped false b) (h (λ e. n (ap (grouped false b) e)))

groups_longer : (more : ℕ) (bs rest : List ℕ) → (groups more bs ≡ Err CutShort → ⊥) → groups more (bs ++ rest) ≡ groups more bs
groups_longer zero [] rest n = absurd (n refl)
groups_longer (suc more) [] rest n = absurd (n refl)
groups_longer zero (b ∷ bs) rest n = refl
groups_longer (suc more) (b ∷ bs) rest n = grouped_longer (ltb b 128) b (groups more bs) (groups more (bs ++ rest)) (groups_longer more bs rest) n

number_steady : Steady number
number_steady = record { there = λ bs v e. (groups_there 4 bs v e).1; front = groups_front 4; longer = groups_longer 4 }

-- a number before n others, of which r is read
abbrev before_others : (n : ℕ) → ℕ × ℕ → Result (Numbers n × ℕ) Cause → Result (Numbers (suc n) × ℕ) Cause
before_others n v r = and_then r (λ vs. Ok ((v.0, vs.0), v.1 + vs.1))

-- n numbers after the one that bytes begin with, of which r is read
abbrev with_others : (n : ℕ) → List ℕ → Result (ℕ × ℕ) Cause → Result (Numbers (suc n) × ℕ) Cause
with_others n bs r = and_then r (λ v. before_others n v (numbers n (drop v.1 bs)))

-- what is left of the first k bytes past some of them
drop_front : (n k : ℕ) (bs : List ℕ) → n ≤ k → drop n (take k bs) ≡ take (k - n) (drop n bs)
drop_front n k bs h = let e : k ≡ n + (k - n) = omega arith in ap (λ m. drop n (take m bs)) e ∙ drop-take n (k - n) bs

next_front : (n : ℕ) → Steady (numbers n) → (bs : List ℕ) (v : Numbers (suc n) × ℕ) (k : ℕ) → numbers (suc n) bs ≡ Ok v → v.1 ≤ k → numbers (suc n) (take k bs) ≡ Ok v
next_front n s bs v k e l =
    let x : Parts n bs v = parts_of n bs v e in
    let left : List ℕ = drop x.first.1 bs in
    let one : number (take k bs) ≡ Ok x.first = number_steady.front bs x.first k x.first_read (omega arith) in
    let cut : drop x.first.1 (take k bs) ≡ take (k - x.first.1) left = drop_front x.first.1 k bs (omega arith) in
    let rest : numbers n (take (k - x.first.1) left) ≡ Ok x.others = s.front left x.others (k - x.first.1) x.others_read (omega arith) in
    ap (with_others n (take k bs)) one ∙ (ap (before_others n x.first) (ap (numbers n) cut ∙ rest) ∙ x.together)

others_longer : (n : ℕ) → Steady (numbers n) → (bs more : List ℕ) (r : Result (ℕ × ℕ) Cause) → number bs ≡ r → (with_others n bs r ≡ Err CutShort → ⊥) → with_others n (bs ++ more) r ≡ with_others n bs r
others_longer n s bs more (Ok w) e h =
    let cut : drop w.1 (bs ++ more) ≡ drop w.1 bs ++ more = drop-append-le w.1 bs more (number_steady.there bs w e) in
    ap (before_others n w) (ap (numbers n) cut ∙ s.longer (drop w.1 bs) more (λ c. h (ap (before_others n w) c)))
others_longer n s bs more (Err c) e h = refl

next_longer : (n : ℕ) → Steady (numbers n) → (bs more : List ℕ) → (numbers (suc n) bs ≡ Err CutShort → ⊥) → numbers (suc n) (bs ++ more) ≡ numbers (suc n) bs
next_longer n s bs more h =
    let one : number (bs ++ more) ≡ number bs = number_steady.longer bs more (λ e. h (ap (with_others n bs) e)) in
    ap (with_others n (bs ++ more)) one ∙ others_longer n s bs more (number bs) refl h

numbers_steady : (n : ℕ) → Steady (numbers n)
numbers_steady zero = record { there = numbers_there zero; front = λ bs v k e l. e; longer = λ bs more h. refl }
numbers_steady (suc n) = record { there = numbers_there (suc n); front = next_front n (numbers_steady n); longer = next_longer n (numbers_steady n) }

-- what is made of a reading, and may refuse it
abbrev refined : {X Y : Type 0} → (X → Result Y Cause) → Result (X × ℕ) Cause → Result (Y × ℕ) Cause
refined f r = and_then r (λ v. and_then (f v.0) (λ y. Ok (y, v.1)))

refined_steady : {X Y : Type 0} (read : Reading X) (f : X → Result Y Cause) → Steady read → Steady (λ bs. refined f (read bs))
refined_steady read f s = record {
  there = λ bs v e. let x = refined_ok f (read bs) v e in omega (arith, s.there bs x.0 x.1, x.2);
  front = λ bs v k e l. let x = refined_ok f (read bs) v e in ap (refined f) (s.front bs x.0 k x.1 (omega (arith, x.2)) ∙ sym x.1) ∙ e;
  longer = λ bs more h. ap (refined f) (s.longer bs more (λ e. h (ap (refined f) e)));
}

-- a record
kind_steady : (r : Result Kind Cause) → Steady (λ bs. and_then r (λ k. fields_record k bs))
kind_steady (Ok k) = refined_steady (numbers (field_count k)) (made k) (numbers_steady (field_count k))
kind_steady (Err c) = record {
  there = λ bs v e. cc;
  front = λ bs v k e l. cc;
  longer = λ bs more h. refl;
}

pub record_steady : (b : ℕ) → Steady (record_of b)
record_steady b = kind_steady (kind_of_byte b)
