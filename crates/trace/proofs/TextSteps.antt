-- One line of a text by places. Assumes nothing.
use Rattle.std.proofs.Common.{◌≡◌, ℕ, suc, Bool, true, false, cond, not, eqb, ◌+◌, ◌<◌, ◌≤◌, List, [], ◌∷◌, length, get_or, drop, Some, None, Ok, Err, Option, Result, sym, refl, ap, ◌∙◌, subst, ⊎_elim, arith, length-drop, get_or-drop, ◌-◌, ne_eqb}
use Rattle.std.proofs.lemmas.List.{drop_all, at_drop_more, drop-drop, take_all}
use Rattle.std.proofs.lemmas.Bool.{cases_lt, eqb-true, eqb-false}
use Rattle.std.proofs.lemmas.Iterator.Adapters.{position_from-zero}
use Rattle.std.specs.List.{position, position_from, slice_range}
use Rattle.std.specs.Option.{option_map}
use Rattle.std.specs.Prelude.{◌==◌}
use Rattle.trace.specs.Faults.{fault_at}
use Rattle.trace.specs.Meanings.{found_at}
use Rattle.trace.specs.Pieces.{pieces, first}
use Rattle.trace.specs.Sources.{Ending, answered, rest}
use Rattle.trace.specs.Text.{line_record, record_then, ending_then, line_records, line_ending, text_records, text_ending}
use Rattle.trace.specs.declared.fault.Cause.{Cause}
use Rattle.trace.specs.declared.fault.Fault.{Fault}
use Rattle.trace.specs.declared.record.Record.{Record}
use Rattle.trace.proofs.Cutting.{first_onto, next_some, next_none}

-- the first byte that is no line end, by the count before it
shifted : (p : ℕ → Bool) (at i : ℕ) (bs : List ℕ) → position_from p (at + i) bs ≡ option_map (λ n. at + n) (position_from p i bs)
shifted p at i [] = refl
shifted p at i (b ∷ bs) = let k : at + i + 1 ≡ at + (i + 1) = omega arith in rw (k, shifted p at (i + 1) bs) (shifted_if (p b) at i (position_from p (i + 1) bs))
  where
    shifted_if : (t : Bool) (at i : ℕ) (o : Option ℕ) → cond t (Some (at + i)) (option_map (λ n. at + n) o) ≡ option_map (λ n. at + n) (cond t (Some i) o)
    shifted_if true at i o = refl
    shifted_if false at i o = refl

pub rest_is : (xs ys : List ℕ) (at : ℕ) → ys ≡ slice_range xs at (length xs) → ys ≡ drop at xs
rest_is xs ys at h = h ∙ take_all (length xs - at) (drop at xs) (omega (arith, length-drop at xs))

pub first_found : (at : ℕ) (bs : List ℕ) (r : Option ℕ) → r ≡ position (λ b. not (b == 10)) bs → option_map (λ n. at + n) r ≡ position_from (λ b. not (b == 10)) at bs
first_found at bs r e =
    let p = λ (b : ℕ). not (b == 10) in
    let k : at + 0 ≡ at = omega arith in
    ap (option_map (λ n. at + n)) (e ∙ position_from-zero p bs) ∙ sym (shifted p at 0 bs) ∙ ap (λ i. position_from p i bs) k

-- What a text means from its first line on that is not empty: nothing where there is none, and else what it means from there.
abbrev pub Skips : ℕ → List ℕ → Option ℕ → Type 0
Skips at bs None = (text_records bs ≡ []) × (text_ending at bs ≡ Ok tt)
Skips at bs (Some i) = (n : ℕ) × (i ≡ at + n) × (n < length bs) × (get_or bs n 0 ≡ 10 → ⊥) × (text_records bs ≡ text_records (drop n bs)) × (text_ending at bs ≡ text_ending i (drop n bs))

skips_one : (at b : ℕ) (bs : List ℕ) (o : Option ℕ) → b ≡ 10 → Skips (at + 1) bs o → Skips at (b ∷ bs) o
skips_one at b bs None e h = rw e h
skips_one at b bs (Some i) e h = rw e (suc h.0, omega (arith, h.1), omega (arith, h.2), h.3, h.4, h.5)

skips_if : (t : Bool) (at b : ℕ) (bs : List ℕ) → eqb b 10 ≡ t → Skips (at + 1) bs (position_from (λ b. not (b == 10)) (at + 1) bs) → Skips at (b ∷ bs) (cond (not t) (Some at) (position_from (λ b. not (b == 10)) (at + 1) bs))
skips_if true at b bs e h = skips_one at b bs _ (eqb-true b 10 e) h
skips_if false at b bs e h = (0, omega arith, omega arith, eqb-false b 10 e, refl, refl)

pub skips : (at : ℕ) (bs : List ℕ) → Skips at bs (position_from (λ b. not (b == 10)) at bs)
skips at [] = (refl, refl)
skips at (b ∷ bs) = skips_if (eqb b 10) at b bs refl (skips (at + 1) bs)

-- What is known of the first line from a place on that is not empty, where it begins at i.
pub record Found (xs : List ℕ) (at i : ℕ) : Type 0 where
  pub there : i < length xs
  pub some : get_or xs i 0 ≡ 10 → ⊥
  pub records : text_records (drop i xs) ≡ text_records (drop at xs)
  pub ending : text_ending i (drop i xs) ≡ text_ending at (drop at xs)

pub found : (xs : List ℕ) (at i : ℕ) (r : Option ℕ) → r ≡ position_from (λ b. not (b == 10)) at (drop at xs) → r ≡ Some i → Found xs at i
found xs at i r e is =
    let k : Skips at (drop at xs) (Some i) = subst (Skips at (drop at xs)) (sym e ∙ is) (skips at (drop at xs)) in
    let p : drop k.0 (drop at xs) ≡ drop i xs = drop-drop k.0 at xs ∙ ap (λ n. drop n xs) (sym k.1) in
    let q : get_or (drop at xs) k.0 0 ≡ get_or xs i 0 = get_or-drop at xs k.0 0 ∙ ap (λ n. get_or xs n 0) (sym k.1) in
    record {
      there = omega (arith, length-drop at xs, k.1, k.2);
      some = λ z. k.3 (q ∙ z);
      records = ap text_records (sym p) ∙ sym k.4;
      ending = ap (text_ending i) (sym p) ∙ sym k.5;
    }

-- nothing is left where there is none
pub none_found : (xs : List ℕ) (at : ℕ) (r : Option ℕ) → r ≡ position_from (λ b. not (b == 10)) at (drop at xs) → r ≡ None → (text_records (drop at xs) ≡ []) × (text_ending at (drop at xs) ≡ Ok tt)
none_found xs at r e is = subst (Skips at (drop at xs)) (sym e ∙ is) (skips at (drop at xs))

-- the bytes of a line that is not empty
some_byte : (xs : List ℕ) (i : ℕ) → i < length xs → (get_or xs i 0 ≡ 10 → ⊥) → first (pieces 10 (drop i xs)) ≡ get_or xs i 0 ∷ first (pieces 10 (drop (i + 1) xs))
some_byte xs i h ne = at_drop_more (λ bs. first (pieces 10 bs)) xs i 0 h ∙ rw (ne_eqb (get_or xs i 0) 10 ne) (first_onto (get_or xs i 0) (pieces 10 (drop (i + 1) xs)))

cons_records : (line : List ℕ) (ls : List (List ℕ)) (b : ℕ) (bs : List ℕ) → line ≡ b ∷ bs → line_records (line ∷ ls) ≡ record_then (line_record line) (line_records ls)
cons_records line ls b bs e = rw e refl

cons_ending : (p : ℕ) (line : List ℕ) (ls : List (List ℕ)) (b : ℕ) (bs : List ℕ) → line ≡ b ∷ bs → line_ending p (line ∷ ls) ≡ ending_then (line_record line) p (line_ending (p + length line + 1) ls)
cons_ending p line ls b bs e = rw e refl

-- What a text from place i on means, where its first line begins there, is not empty and ends at e.
pub record Line (xs : List ℕ) (i e : ℕ) : Type 0 where
  pub records : text_records (drop i xs) ≡ record_then (line_record (first (pieces 10 (drop i xs)))) (text_records (drop (e + 1) xs))
  pub ending : text_ending i (drop i xs) ≡ ending_then (line_record (first (pieces 10 (drop i xs)))) i (text_ending (e + 1) (drop (e + 1) xs))

inner : (xs : List ℕ) (i e : ℕ) → i < length xs → (get_or xs i 0 ≡ 10 → ⊥) → e ≡ i + length (first (pieces 10 (drop i xs))) → e < length xs → Line xs i e
inner xs i e h ne p l =
    let line = first (pieces 10 (drop i xs)) in
    let cut = next_some 10 xs i e p l in
    let some = some_byte xs i h ne in
    record {
      records = ap line_records cut ∙ cons_records line (pieces 10 (drop (e + 1) xs)) _ _ some;
      ending = ap (line_ending i) cut ∙ cons_ending i line (pieces 10 (drop (e + 1) xs)) _ _ some ∙ ap (λ n. ending_then (line_record line) i (line_ending (n + 1) (pieces 10 (drop (e + 1) xs)))) (sym p);
    }

last : (xs : List ℕ) (i e : ℕ) → i < length xs → (get_or xs i 0 ≡ 10 → ⊥) → e ≡ i + length (first (pieces 10 (drop i xs))) → length xs ≤ e → Line xs i e
last xs i e h ne p l =
    let line = first (pieces 10 (drop i xs)) in
    let cut = next_none 10 xs i e p l in
    let some = some_byte xs i h ne in
    let k : length xs ≤ e + 1 = omega arith in
    let none = drop_all (e + 1) xs k in
    record {
      records = ap line_records cut ∙ cons_records line [] _ _ some ∙ ap (λ bs. record_then (line_record line) (text_records bs)) (sym none);
      ending = ap (line_ending i) cut ∙ cons_ending i line [] _ _ some ∙ ap (λ bs. ending_then (line_record line) i (text_ending (e + 1) bs)) (sym none);
    }

pub line_at : (xs : List ℕ) (i e : ℕ) → i < length xs → (get_or xs i 0 ≡ 10 → ⊥) → e ≡ i + length (first (pieces 10 (drop i xs))) → Line xs i e
line_at xs i e h ne p = ⊎_elim (λ l. inner xs i e h ne p l) (λ l. last xs i e h ne p l) (cases_lt e (length xs))

-- what one call of the source does
pub record Stepped (before after : List Record) (e e' : Ending) (r : Result (Option Record) Fault) : Type 0 where
  pub answer : r ≡ answered before e
  pub rest : after ≡ rest before
  pub ending : e' ≡ e

-- no line is left
pub at_end : (rs : List Record) (e : Ending) → rs ≡ [] → e ≡ Ok tt → Stepped rs rs e e (Ok None)
at_end rs e p q = rw (p, q) (record { answer = refl; rest = refl; ending = refl })

-- the line is at fault
pub at_fault : (f : Fault) (i : ℕ) (l : Result Record Cause) (more rs : List Record) (after e : Ending) → Err f ≡ found_at l i → rs ≡ record_then l more → e ≡ ending_then l i after → Stepped rs rs e e (Err f)
at_fault f i (Ok r) more rs after e h p q = cc
at_fault f i (Err c) more rs after e h p q = let k : f ≡ fault_at c i = cc in rw (p, q) (record { answer = ap Err k; rest = refl; ending = refl })

-- the line is a record
pub at_record : (r : Record) (i : ℕ) (l : Result Record Cause) (more rs : List Record) (after e : Ending) → Ok r ≡ found_at l i → rs ≡ record_then l more → e ≡ ending_then l i after → Stepped rs more e after (Ok (Some r))
at_record r i (Ok x) more rs after e h p q = let k : r ≡ x = cc in rw (p, q) (record { answer = ap (λ y. Ok (Some y)) k; rest = refl; ending = refl })
at_record r i (Err c) more rs after e h p q = cc
