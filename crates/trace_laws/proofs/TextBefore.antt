-- What a text means before the line of its fault. Assumes nothing.
use Rattle.std.proofs.Common.{◌≡◌, ℕ, suc, ◌+◌, ◌-◌, ◌≤◌, true, ◌⊎◌, List, [], ◌∷◌, ◌++◌, length, take, Ok, Err, Result, sym, refl, ap, ◌∙◌, inl, inr, arith}
use Rattle.std.proofs.lemmas.List.{take_all}
use Rattle.trace.specs.Meanings.{Meaning, followed}
use Rattle.trace.specs.Text.{line_record, lines}
use Rattle.trace.specs.declared.fault.Cause.{Cause}
use Rattle.trace.specs.declared.fault.Fault.{Fault}
use Rattle.trace.specs.declared.record.Record.{Record}
use Rattle.trace_laws.proofs.ByLines.{lines_meaning, by_lines}
use Rattle.trace_laws.proofs.Joining.{lacks, pieces_lacking, pieces_line, Cut, last, then, cut}
use Rattle.trace_laws.proofs.TextFaults.{no_fault, fault_above}
use Rattle.trace_laws.specs.Writing.{whole}

-- The fault is that of what is read first, before which nothing is; or it is in what follows, which lies at place q or above.
abbrev Before : ℕ → ℕ → Meaning → Meaning → Fault → Type 0
Before p q m n f = ((f.place ≡ p) × (m.records ≡ [])) ⊎ ((q ≤ f.place) × (n ≡ whole m.records))

followed_before : (r : Result Record Cause) (p q : ℕ) (m n : Meaning) (f : Fault) → (m.ending ≡ Err f → (q ≤ f.place) × (n ≡ whole m.records)) → (followed r p m).ending ≡ Err f → Before p q (followed r p m) (followed r p n) f
followed_before (Ok r) p q m n f same h = inr ((same h).0, ap (followed (Ok r) p) (same h).1)
followed_before (Err c) p q m n f same h = inl (cc, refl)

next_place : (p q : ℕ) → p + 0 + 1 ≡ q → p + 1 ≡ q
next_place p q is = omega arith

-- the same of a line, and of lines after it
line_before : (p q : ℕ) (l : List ℕ) (ls ks : List (List ℕ)) (f : Fault) → p + length l + 1 ≡ q → ((lines_meaning q ls).ending ≡ Err f → lines_meaning q ks ≡ whole (lines_meaning q ls).records) → (lines_meaning p (l ∷ ls)).ending ≡ Err f → Before p q (lines_meaning p (l ∷ ls)) (lines_meaning p (l ∷ ks)) f
line_before p q [] ls ks f is same h =
    let at : (ms : List (List ℕ)) → lines_meaning p ([] ∷ ms) ≡ lines_meaning q ms = λ ms. ap (λ n. lines_meaning n ms) (next_place p q is) in
    let g : (lines_meaning q ls).ending ≡ Err f = ap (λ (m : Meaning). m.ending) (sym (at ls)) ∙ h in
    inr (fault_above q ls f g, at ks ∙ (same g ∙ ap (λ (m : Meaning). whole m.records) (sym (at ls))))
line_before p q (b ∷ bs) ls ks f is same h =
    let at : (ms : List (List ℕ)) → lines_meaning p ((b ∷ bs) ∷ ms) ≡ followed (line_record (b ∷ bs)) p (lines_meaning q ms) = λ ms. ap (λ n. followed (line_record (b ∷ bs)) p (lines_meaning n ms)) is in
    rw (at ls, at ks) (followed_before (line_record (b ∷ bs)) p q (lines_meaning q ls) (lines_meaning q ks) f (λ g. (fault_above q ls f g, same g)) (ap (λ (m : Meaning). m.ending) (sym (at ls)) ∙ h))

-- the front of a line, its end and more, past the line
take_past : (n : ℕ) (l more : List ℕ) → take (length l + 1 + n) (l ++ (10 ∷ more)) ≡ l ++ (10 ∷ take n more)
take_past n [] more = let e : 0 + 1 + n ≡ suc n = omega arith in rw e
take_past n (b ∷ l) more = let e : suc (length l) + 1 + n ≡ suc (length l + 1 + n) = omega arith in rw (e, take_past n l more)

-- nothing is before a line at fault
none_before : (p : ℕ) (text : List ℕ) (f : Fault) → f.place ≡ p → (by_lines p text).records ≡ [] → by_lines p (take (f.place - p) text) ≡ whole (by_lines p text).records
none_before p text f at none = let e : f.place - p ≡ 0 = omega arith in rw (e, none)

-- the text before the line at fault, from the first line on
last_before : (p : ℕ) (l : List ℕ) (f : Fault) → Before p (p + length l + 1) (by_lines p l) (by_lines p l) f → by_lines p (take (f.place - p) l) ≡ whole (by_lines p l).records
last_before p l f (inl x) = none_before p l f x.0 x.1
last_before p l f (inr x) = rw (take_all (f.place - p) l (omega arith)) x.1

then_before : (p : ℕ) (l more : List ℕ) (f : Fault) → lacks 10 l ≡ true → Before p (p + length l + 1) (by_lines p (l ++ (10 ∷ more))) (lines_meaning p (l ∷ lines (take (f.place - (p + length l + 1)) more))) f → by_lines p (take (f.place - p) (l ++ (10 ∷ more))) ≡ whole (by_lines p (l ++ (10 ∷ more))).records
then_before p l more f lack (inl x) = none_before p (l ++ (10 ∷ more)) f x.0 x.1
then_before p l more f lack (inr x) =
    let n = f.place - (p + length l + 1) in
    let e : f.place - p ≡ length l + 1 + n = omega arith in
    rw (e, take_past n l more, pieces_line 10 l (take n more) lack) x.1

pub before_cut : (p : ℕ) (text : List ℕ) (f : Fault) → Cut 10 text → (by_lines p text).ending ≡ Err f → by_lines p (take (f.place - p) text) ≡ whole (by_lines p text).records
before_cut p text f (last l lack) h =
    let q = p + length l + 1 in
    let e = pieces_lacking 10 l lack in
    last_before p l f (rw e (line_before p q l [] [] f refl (no_fault f) (rw e at h)))
before_cut p text f (then l more lack c) h =
    let q = p + length l + 1 in
    let e = pieces_line 10 l more lack in
    then_before p l more f lack (rw e (line_before p q l (lines more) (lines (take (f.place - q) more)) f refl (before_cut q more f c) (rw e at h)))

pub by_lines_before : (text : List ℕ) (f : Fault) → (by_lines 0 text).ending ≡ Err f → by_lines 0 (take f.place text) ≡ whole (by_lines 0 text).records
by_lines_before text f h = let e : f.place - 0 ≡ f.place = omega arith in rw e at (before_cut 0 text f (cut 10 text) h)
