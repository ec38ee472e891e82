-- The fields of a line one by one, and the record of a line. Assumes nothing.
use Rattle.std.proofs.Common.{◌≡◌, ℕ, zero, suc, ◌+◌, ◌-◌, ◌<◌, ◌≤◌, List, [], ◌∷◌, ◌++◌, length, take, set, Ok, Err, Result, refl, ap, ◌∙◌, append_assoc, append-nil, arith}
use Rattle.std.proofs.lemmas.List.{length-set, take_more_set, take_all}
use Rattle.trace.specs.Sources.{rest}
use Rattle.trace.specs.Fields.{Numbers, listed, field_count, made}
use Rattle.trace.proofs.Making.{made_list, made_same}
use Rattle.trace.specs.Text.{and_then, first_field, no_word, fields, field_list, record_of}
use Rattle.trace.specs.declared.fault.Cause.{Cause}
use Rattle.trace.specs.declared.kind.Kind.{Kind}

-- the fields so far, and the n others that the words are
abbrev pub after_fields : List ℕ → ℕ → List (List ℕ) → Result (List ℕ) Cause
after_fields xs n ws = and_then (fields n ws) (λ v. Ok (xs ++ listed n v))

with_first : (xs : List ℕ) (x n : ℕ) (r : Result (Numbers n) Cause) → and_then (and_then r (λ vs. Ok (x, vs))) (λ v. Ok (xs ++ listed (suc n) v)) ≡ and_then r (λ v. Ok ((xs ++ x ∷ []) ++ listed n v))
with_first xs x n (Ok vs) = rw append_assoc
with_first xs x n (Err c) = refl

-- What is known of the N fields in xs after i of them were read: they and what is left are the fields of the words before.
pub record Reading (N i : ℕ) (xs : List ℕ) (before left : List (List ℕ)) : Type 0 where
  pub room : length xs ≡ N
  pub few : i ≤ N
  pub same : after_fields (take i xs) (N - i) left ≡ field_list N before

pub reading_none : (N : ℕ) (xs : List ℕ) (ws : List (List ℕ)) → length xs ≡ N → Reading N 0 xs ws ws
reading_none N xs ws h = let k : N - 0 ≡ N = omega arith in record { room = h; few = omega arith; same = rw k refl }

-- one field more
field_more : (xs : List ℕ) (n : ℕ) (ws : List (List ℕ)) (x : ℕ) → 0 < n → Ok x ≡ first_field ws → after_fields (xs ++ x ∷ []) (n - 1) (rest ws) ≡ after_fields xs n ws
field_more xs zero ws x h e = absurd (omega arith)
field_more xs (suc n) ws x h e = let k : suc n - 1 ≡ n = omega arith in rw (k, ← e, with_first xs x n (fields n (rest ws)))

pub reading_more : (N i : ℕ) (xs : List ℕ) (before left left' : List (List ℕ)) (x : ℕ) → Reading N i xs before left → i < N → Ok x ≡ first_field left → left' ≡ rest left → Reading N (i + 1) (set xs i x) before left'
reading_more N i xs before left left' x r h e l =
    let k : N - (i + 1) ≡ N - i - 1 = omega arith in
    let w : i < length xs = omega (arith, r.room) in
    record {
      room = length-set xs i x ∙ r.room;
      few = omega arith;
      same = rw (l, k, take_more_set xs i x w) (field_more (take i xs) (N - i) left x (omega arith) e ∙ r.same);
    }

-- a field at fault
field_fault : (xs : List ℕ) (n : ℕ) (ws : List (List ℕ)) (c : Cause) → 0 < n → Err c ≡ first_field ws → Err c ≡ after_fields xs n ws
field_fault xs zero ws c h e = absurd (omega arith)
field_fault xs (suc n) ws c h e = rw (← e)

pub reading_fault : (N i : ℕ) (xs : List ℕ) (before left : List (List ℕ)) (c : Cause) → Reading N i xs before left → i < N → Err c ≡ first_field left → Err c ≡ field_list N before
reading_fault N i xs before left c r h e = field_fault (take i xs) (N - i) left c (omega arith) e ∙ r.same

-- no field is left
pub reading_all : (N i : ℕ) (xs : List ℕ) (before left : List (List ℕ)) → Reading N i xs before left → N ≤ i → and_then (no_word left) (λ v. Ok xs) ≡ field_list N before
reading_all N i xs before left r h =
    let k : N - i ≡ 0 = omega (arith, r.few) in
    let t : take i xs ≡ xs = take_all i xs (omega (arith, r.room)) in
    simp (k, t, append-nil) at r.same

of_list : (k : Kind) (r : Result (Numbers (field_count k)) Cause) (xs : List ℕ) → Ok xs ≡ and_then r (λ v. Ok (listed (field_count k) v)) → made_list k xs ≡ and_then r (made k)
of_list k (Ok v) xs e = let h : xs ≡ listed (field_count k) v = cc in ap (made_list k) h ∙ made_same k v
of_list k (Err c) xs e = cc

-- the fields that are read make the record
pub fields_made : (k : Kind) (ws : List (List ℕ)) (xs : List ℕ) → Ok xs ≡ field_list (field_count k) ws → made_list k xs ≡ record_of k ws
fields_made k ws xs e = of_list k (fields (field_count k) ws) xs e

of_fault : (k : Kind) (r : Result (Numbers (field_count k)) Cause) (c : Cause) → Err c ≡ and_then r (λ v. Ok (listed (field_count k) v)) → Err c ≡ and_then r (made k)
of_fault k (Ok v) c e = cc
of_fault k (Err d) c e = cc

-- or they are at fault, and so is the record
pub fields_fault : (k : Kind) (ws : List (List ℕ)) (c : Cause) → Err c ≡ field_list (field_count k) ws → Err c ≡ record_of k ws
fields_fault k ws c e = of_fault k (fields (field_count k) ws) c e
