-- Where the fault of a text lies, and what its records depend on. Assumes nothing.
use Rattle.std.proofs.Common.{◌≡◌, ℕ, ◌+◌, ◌<◌, ◌≤◌, ◌⊎◌, List, [], ◌∷◌, ◌++◌, length, Ok, Err, Result, sym, refl, ap, ◌∙◌, inl, inr, arith}
use Rattle.trace.specs.Meanings.{Meaning, followed}
use Rattle.trace.specs.Sources.{Ending}
use Rattle.trace.specs.Text.{line_record, lines}
use Rattle.trace.specs.declared.fault.Cause.{Cause}
use Rattle.trace.specs.declared.fault.Fault.{Fault}
use Rattle.trace.specs.declared.record.Record.{Record}
use Rattle.trace_laws.proofs.ByLines.{lines_meaning, by_lines}
use Rattle.trace_laws.proofs.Joining.{pieces_append, size, size_pieces}

-- an end is no fault
pub no_fault : {X : Type 0} (f : Fault) → ◌≡◌ {A = Ending} (Ok tt) (Err f) → X
no_fault f h = cc

-- a fault is that of what is read first, or of what follows
fault_of : (r : Result Record Cause) (p : ℕ) (m : Meaning) (f : Fault) → (followed r p m).ending ≡ Err f → (f.place ≡ p) ⊎ (m.ending ≡ Err f)
fault_of (Ok r) p m f h = inr h
fault_of (Err c) p m f h = inl (cc)

-- it lies at the lines' place or above
pub fault_above : (p : ℕ) (ls : List (List ℕ)) (f : Fault) → (lines_meaning p ls).ending ≡ Err f → p ≤ f.place
fault_above p [] f h = no_fault f h
fault_above p ([] ∷ ls) f h = omega (arith, fault_above (p + 1) ls f h)
fault_above p ((b ∷ bs) ∷ ls) f h =
    elim (fault_of (line_record (b ∷ bs)) p (lines_meaning (p + length (b ∷ bs) + 1) ls) f h) [ inl e ↦ omega arith | inr e ↦ omega (arith, fault_above (p + length (b ∷ bs) + 1) ls f e) ]

-- and before the end of the lines, since a line at fault has a byte
pub fault_below : (p : ℕ) (ls : List (List ℕ)) (f : Fault) → (lines_meaning p ls).ending ≡ Err f → f.place + 1 < p + size ls
fault_below p [] f h = no_fault f h
fault_below p ([] ∷ ls) f h = omega (arith, fault_below (p + 1) ls f h)
fault_below p ((b ∷ bs) ∷ ls) f h =
    elim (fault_of (line_record (b ∷ bs)) p (lines_meaning (p + length (b ∷ bs) + 1) ls) f h) [ inl e ↦ omega arith | inr e ↦ omega (arith, fault_below (p + length (b ∷ bs) + 1) ls f e) ]

pub by_lines_within : (text : List ℕ) (f : Fault) → (by_lines 0 text).ending ≡ Err f → f.place < length text
by_lines_within text f h = omega (arith, fault_below 0 (lines text) f h, size_pieces 10 text)

-- lines after a fault change nothing
followed_same : (r : Result Record Cause) (p : ℕ) (m n : Meaning) (f : Fault) → (m.ending ≡ Err f → n ≡ m) → (followed r p m).ending ≡ Err f → followed r p n ≡ followed r p m
followed_same (Ok r) p m n f same h = ap (followed (Ok r) p) (same h)
followed_same (Err c) p m n f same h = refl

pub lines_broken : (p : ℕ) (ls more : List (List ℕ)) (f : Fault) → (lines_meaning p ls).ending ≡ Err f → lines_meaning p (ls ++ more) ≡ lines_meaning p ls
lines_broken p [] more f h = no_fault f h
lines_broken p ([] ∷ ls) more f h = lines_broken (p + 1) ls more f h
lines_broken p ((b ∷ bs) ∷ ls) more f h = followed_same (line_record (b ∷ bs)) p (lines_meaning (p + length (b ∷ bs) + 1) ls) (lines_meaning (p + length (b ∷ bs) + 1) (ls ++ more)) f (λ e. lines_broken (p + length (b ∷ bs) + 1) ls more f e) h

-- lines after lines with no fault end as they would alone, at their place
followed_ends : (r : Result Record Cause) (p : ℕ) (m n : Meaning) (e : Ending) → (m.ending ≡ Ok tt → n.ending ≡ e) → (followed r p m).ending ≡ Ok tt → (followed r p n).ending ≡ e
followed_ends (Ok r) p m n e same h = same h
followed_ends (Err c) p m n e same h = cc

ends_at : (p q : ℕ) (ls : List (List ℕ)) → p ≡ q → (lines_meaning p ls).ending ≡ (lines_meaning q ls).ending
ends_at p q ls e = ap (λ n. (lines_meaning n ls).ending) e

pub lines_ended : (p : ℕ) (ls more : List (List ℕ)) → (lines_meaning p ls).ending ≡ Ok tt → (lines_meaning p (ls ++ more)).ending ≡ (lines_meaning (p + size ls) more).ending
lines_ended p [] more h = ends_at p (p + 0) more (omega arith)
lines_ended p ([] ∷ ls) more h = lines_ended (p + 1) ls more h ∙ ends_at (p + 1 + size ls) (p + size ([] ∷ ls)) more (omega arith)
lines_ended p ((b ∷ bs) ∷ ls) more h =
    let q = p + length (b ∷ bs) + 1 in
    let e = ends_at (q + size ls) (p + size ((b ∷ bs) ∷ ls)) more (omega arith) in
    followed_ends (line_record (b ∷ bs)) p (lines_meaning q ls) (lines_meaning q (ls ++ more)) (lines_meaning (p + size ((b ∷ bs) ∷ ls)) more).ending (λ h. lines_ended q ls more h ∙ e) h

pub by_lines_ended : (text more : List ℕ) (f : Fault) → (by_lines 0 text).ending ≡ Err f → by_lines 0 (text ++ (10 ∷ more)) ≡ by_lines 0 text
by_lines_ended text more f h = rw (pieces_append 10 text more) (lines_broken 0 (lines text) (lines more) f h)

-- By whether the front has a fault: without one, the fault would lie past the front.
after_if : (e : Ending) (front more others : List ℕ) (f : Fault) → (by_lines 0 front).ending ≡ e → (by_lines 0 (front ++ (10 ∷ more))).ending ≡ Err f → f.place ≤ length front → by_lines 0 (front ++ (10 ∷ others)) ≡ by_lines 0 (front ++ (10 ∷ more))
after_if (Ok u) front more others f is h within =
    let e : (lines_meaning (0 + size (lines front)) (lines more)).ending ≡ Err f = sym (lines_ended 0 (lines front) (lines more) is) ∙ (rw (pieces_append 10 front more) at h) in
    absurd (omega (arith, fault_above (0 + size (lines front)) (lines more) f e, size_pieces 10 front))
after_if (Err g) front more others f is h within = by_lines_ended front others g is ∙ sym (by_lines_ended front more g is)

pub by_lines_after : (front more others : List ℕ) (f : Fault) → (by_lines 0 (front ++ (10 ∷ more))).ending ≡ Err f → f.place ≤ length front → by_lines 0 (front ++ (10 ∷ others)) ≡ by_lines 0 (front ++ (10 ∷ more))
by_lines_after front more others f h within = after_if (by_lines 0 front).ending front more others f refl h within
