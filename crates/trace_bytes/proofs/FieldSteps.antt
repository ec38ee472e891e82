-- Fields one after the other, by places. Assumes nothing.
use Rattle.std.proofs.Common.{◌≡◌, ℕ, zero, suc, ◌+◌, ◌-◌, ◌<◌, ◌≤◌, List, [], ◌∷◌, ◌++◌, length, take, drop, set, Ok, Err, Result, refl, ap, ◌∙◌, append_assoc, append-nil, zero-add, arith}
use Rattle.std.proofs.lemmas.List.{length-set, take_more_set, take_all, drop-drop}
use Rattle.trace.specs.Faults.{fault_at}
use Rattle.trace.specs.Fields.{Numbers, listed, field_count, made}
use Rattle.trace.specs.Meanings.{found_at}
use Rattle.trace.specs.Text.{and_then}
use Rattle.trace.specs.declared.fault.Cause.{Cause}
use Rattle.trace.specs.declared.fault.Fault.{Fault}
use Rattle.trace.specs.declared.kind.Kind.{Kind}
use Rattle.trace.specs.declared.record.Record.{Record}
use Rattle.trace.proofs.Making.{made_list, made_same}
use Rattle.trace.proofs.Placing.{found_ok, found_err}
use Rattle.trace_bytes.specs.Bytes.{fields_record}
use Rattle.trace_bytes.specs.Groups.{number, numbers, number_list}

-- the fields so far, which took so many bytes, and the n others that bytes begin with
abbrev pub after_numbers : List ℕ → ℕ → ℕ → List ℕ → Result (List ℕ × ℕ) Cause
after_numbers xs taken n bs = and_then (numbers n bs) (λ v. Ok (xs ++ listed n v.0, taken + v.1))

with_first : (xs : List ℕ) (taken x more n : ℕ) (r : Result (Numbers n × ℕ) Cause) → and_then {X = Numbers (suc n) × ℕ} {Y = List ℕ × ℕ} (and_then {Y = Numbers (suc n) × ℕ} r (λ vs. Ok ((x, vs.0), more + vs.1))) (λ v. Ok (xs ++ listed (suc n) v.0, taken + v.1)) ≡ and_then {Y = List ℕ × ℕ} r (λ v. Ok ((xs ++ x ∷ []) ++ listed n v.0, taken + more + v.1))
with_first xs taken x more n (Ok vs) = let k : taken + (more + vs.1) ≡ taken + more + vs.1 = omega arith in rw (append_assoc, k)
with_first xs taken x more n (Err c) = refl

-- one number more
number_more : (xs : List ℕ) (taken n : ℕ) (bs : List ℕ) (x more : ℕ) → 0 < n → number bs ≡ Ok (x, more) → after_numbers (xs ++ x ∷ []) (taken + more) (n - 1) (drop more bs) ≡ after_numbers xs taken n bs
number_more xs taken zero bs x more h e = absurd (omega arith)
number_more xs taken (suc n) bs x more h e = let k : suc n - 1 ≡ n = omega arith in rw (k, e, with_first xs taken x more n (numbers n (drop more bs)))

-- a number at fault
number_fault : (xs : List ℕ) (taken n : ℕ) (bs : List ℕ) (c : Cause) → 0 < n → number bs ≡ Err c → Err c ≡ after_numbers xs taken n bs
number_fault xs taken zero bs c h e = absurd (omega arith)
number_fault xs taken (suc n) bs c h e = rw e

-- What is known of the N fields in ys that begin at `at`, after i of them were read, which took so many bytes.
pub record Reading (N i : ℕ) (ys : List ℕ) (xs : List ℕ) (at taken : ℕ) : Type 0 where
  pub room : length ys ≡ N
  pub few : i ≤ N
  pub within : at + taken ≤ length xs
  pub same : after_numbers (take i ys) taken (N - i) (drop (at + taken) xs) ≡ number_list N (drop at xs)

pub reading_none : (N : ℕ) (ys xs : List ℕ) (at : ℕ) → length ys ≡ N → at ≤ length xs → Reading N 0 ys xs at 0
reading_none N ys xs at h w =
    let k : N - 0 ≡ N = omega arith in
    let l : at + 0 ≡ at = omega arith in
    record { room = h; few = omega arith; within = omega arith; same = simp (k, l, zero-add) }

pub reading_more : (N i : ℕ) (ys xs : List ℕ) (at taken x more p : ℕ) → Reading N i ys xs at taken → i < N → Ok (x, more) ≡ found_at (number (drop (at + taken) xs)) p → at + taken + more ≤ length xs → Reading N (i + 1) (set ys i x) xs at (taken + more)
reading_more N i ys xs at taken x more p r h e w =
    let k : N - (i + 1) ≡ N - i - 1 = omega arith in
    let l : i < length ys = omega (arith, r.room) in
    let s : at + (taken + more) ≡ at + taken + more = omega arith in
    let n = number_more (take i ys) taken (N - i) (drop (at + taken) xs) x more (omega arith) (found_ok (number (drop (at + taken) xs)) p (x, more) e) in
    record {
      room = length-set ys i x ∙ r.room;
      few = omega arith;
      within = omega arith;
      same = rw (k, take_more_set ys i x l, s, ← drop-drop more (at + taken) xs) (n ∙ r.same);
    }

pub reading_fault : (N i : ℕ) (ys xs : List ℕ) (at taken p : ℕ) (f : Fault) → Reading N i ys xs at taken → i < N → Err f ≡ found_at (number (drop (at + taken) xs)) p → Err f ≡ found_at (number_list N (drop at xs)) p
reading_fault N i ys xs at taken p f r h e =
    let k = found_err (number (drop (at + taken) xs)) p f e in
    ap Err k.2 ∙ ap (λ x. found_at x p) (number_fault (take i ys) taken (N - i) (drop (at + taken) xs) k.0 (omega arith) k.1 ∙ r.same)

-- no number is left
pub reading_all : (N i : ℕ) (ys xs : List ℕ) (at taken p : ℕ) → Reading N i ys xs at taken → N ≤ i → Ok (ys, taken) ≡ found_at (number_list N (drop at xs)) p
reading_all N i ys xs at taken p r h =
    let k : N - i ≡ 0 = omega (arith, r.few) in
    let t : take i ys ≡ ys = take_all i ys (omega (arith, r.room)) in
    let z : taken + 0 ≡ taken = omega arith in
    ap (λ x. found_at x p) (simp (k, t, append-nil, z) at r.same)

-- the numbers of a kind's fields as a list
abbrev listed_all : (k : Kind) → Result (Numbers (field_count k) × ℕ) Cause → Result (List ℕ × ℕ) Cause
listed_all k r = and_then r (λ v. Ok (listed (field_count k) v.0, v.1))

-- the record that they make
abbrev made_all : (k : Kind) → Result (Numbers (field_count k) × ℕ) Cause → Result (Record × ℕ) Cause
made_all k r = and_then r (λ v. and_then (made k v.0) (λ x. Ok (x, v.1)))

of_list : (k : Kind) (r : Result (Numbers (field_count k) × ℕ) Cause) (xs : List ℕ) (n p : ℕ) → Ok (xs, n) ≡ found_at (listed_all k r) p → and_then (made_list k xs) (λ x. Ok (x, n)) ≡ made_all k r
of_list k (Ok v) xs n p e =
    let h : (xs, n) ≡ (listed (field_count k) v.0, v.1) = cc in
    ap (λ (w : List ℕ × ℕ). and_then (made_list k w.0) (λ x. Ok (x, w.1))) h ∙ ap (λ r. and_then r (λ x. Ok (x, v.1))) (made_same k v.0)
of_list k (Err c) xs n p e = cc

-- the fields that are read make the record
pub fields_made : (k : Kind) (bs xs : List ℕ) (n p : ℕ) (r : Result Record Cause) → r ≡ made_list k xs → Ok (xs, n) ≡ found_at (number_list (field_count k) bs) p → found_at (and_then r (λ x. Ok (x, n))) p ≡ found_at (fields_record k bs) p
fields_made k bs xs n p r m e = ap (λ x. found_at x p) (ap (λ y. and_then y (λ x. Ok (x, n))) m ∙ of_list k (numbers (field_count k) bs) xs n p e)

of_fault : (k : Kind) (r : Result (Numbers (field_count k) × ℕ) Cause) (p : ℕ) (f : Fault) → Err f ≡ found_at (listed_all k r) p → Err f ≡ found_at (made_all k r) p
of_fault k (Ok v) p f e = cc
of_fault k (Err c) p f e = let h : f ≡ fault_at c p = cc in ap Err h

-- or they are at fault, and so is the record
pub fields_fault : (k : Kind) (bs : List ℕ) (p : ℕ) (f : Fault) → Err f ≡ found_at (number_list (field_count k) bs) p → Err f ≡ found_at (fields_record k bs) p
fields_fault k bs p f e = of_fault k (numbers (field_count k) bs) p f e
