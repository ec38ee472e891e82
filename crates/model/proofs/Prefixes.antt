-- The rows of a list's summary have their paths' beginnings. Assumes nothing.
use Rattle.std.proofs.Common.{◌≡◌, ℕ, ◌≤◌, Bool, true, false, cond, ◌||◌, List, [], ◌∷◌, ◌++◌, drop, sym, refl, ap, ◌∙◌, subst, inl, inr, ⊎_elim, le_refl}
use lib.Seq.{drop-nil}
use Rattle.std.proofs.lemmas.Bool.{cases_Bool, both_ways, or_cases, or_left, or_right, cond-false}
use Rattle.trace.specs.declared.record.Record.{Record}
use Rattle.trace.specs.declared.record.Record.TheVariants.{Call, Return, Unwind, Sample}
use Rattle.model.specs.Positions.{Path, Position, at, start, move, ends, same}
use Rattle.metrics.specs.Measures.{Measure}
use Rattle.metrics.specs.Joins.{joins, calling}
use Rattle.model.specs.Summaries.{booking, bookings, value_at, rooted, Prefixes}
use Rattle.model.proofs.Moves.{same_true}
use Rattle.model.proofs.Totals.{joins_append}
use Rattle.model.proofs.Rows.{calling_laws, Known, move_known, joined_known, open_row, rooted_from}
use Rattle.model.proofs.Trees.{Below, bookings_below}

-- of a call's context the path without its last function is known
call_shorter : (p : Position) (xs : List Record) (l f : ℕ) (q : Path) → value_at calling p xs (at l (f ∷ q)) ≡ true → Known p (bookings calling p xs) (at l q)
call_shorter p [] l f q h = absurd (both_ways false refl h)
call_shorter p (x ∷ xs) l f q h =
    let z : Position = at l (f ∷ q) in
    let rows = booking calling p x in
    let more = bookings calling (move p x) xs in
    ⊎_elim
    (λ here. joined_known p rows more (at l q) (go x here))
    (λ later. ⊎_elim inl
    (⊎_elim
    (λ c. inr (inl (joins_append calling_laws (same (at l q)) rows more ∙ or_right (joins calling (same (at l q)) rows) _ c)))
    (λ t. subst (Known p (rows ++ more)) (sym t.1) (joined_known p rows more _ (move_known p x t.0))))
    (call_shorter (move p x) xs l f q later))
    (or_cases (joins calling (same z) rows) (joins calling (same z) more) (sym (joins_append calling_laws (same z) rows more) ∙ h))
  where
    tail : Position → Position
    tail y = at y.level (drop 1 y.path)

    go : (r : Record) → joins calling (same (at l (f ∷ q))) (booking calling p r) ≡ true → Known p (booking calling p r) (at l q)
    go (Call g) e =
        ⊎_elim
        (λ b. inr (inr (0, ap tail (same_true (at l (f ∷ q)) (move p (Call g)) b))))
        (λ b. absurd (both_ways _ (cond-false (same (at l (f ∷ q)) (move p (Call g))) (true || false) false b) e))
        (cases_Bool (same (at l (f ∷ q)) (move p (Call g))))
    go Return e = absurd (both_ways false refl e)
    go (Unwind n) e = absurd (both_ways false refl e)
    go (Sample s) e = absurd (both_ways _ (flat (same (at l (f ∷ q)) p)) e)
      where
        flat : (b : Bool) → cond b (false || false) false ≡ false
        flat true = refl
        flat false = refl

-- a call's context has a level up to the last
call_level : (n : ℕ) (x : Position) (rows : List (Position × Bool)) → Below n rows → joins calling (same x) rows ≡ true → x.level ≤ n
call_level n x [] b h = absurd (both_ways false refl h)
call_level n x (r ∷ rows) b h =
    ⊎_elim
    (λ is. subst (λ (y : Position). y.level ≤ n) (sym (same_true x r.0 is)) b.0)
    (λ isnt. call_level n x rows b.1 (sym (cond-false _ _ _ isnt) ∙ h))
    (cases_Bool (same x r.0))

pub prefixes_stand : {M : Type 0} (m : Measure M) → Prefixes m
prefixes_stand m xs = record {
  shorter = λ l f q h.
      ⊎_elim
      (λ r. absurd (both_ways false refl (rooted_cons l f q r)))
      (λ c. ⊎_elim
      (λ none. or_left _ _ (rooted_from _ (at l q) none (call_level _ (at l (f ∷ q)) (bookings calling start xs) (bookings_below calling start xs) c)))
      (⊎_elim
      (λ k. or_right (rooted (ends start xs).level (at l q)) _ k)
      (λ t. or_left _ _ (rooted_from _ (at l q) (ap (λ z. z.path) t.1 ∙ drop-nil t.0) (call_level _ (at l (f ∷ q)) (bookings calling start xs) (bookings_below calling start xs) c))))
      (call_shorter start xs l f q c))
      (or_cases _ _ h);
  opened = ⊎_elim
      (λ none. or_left _ _ (rooted_from _ (ends start xs) none (le_refl _)))
      (λ c. or_right (rooted (ends start xs).level (ends start xs)) _ c)
      (open_row xs 0 (ends start xs) refl);
}
  where
    rooted_cons : (l f : ℕ) (q : Path) → rooted (ends start xs).level (at l (f ∷ q)) ≡ true → false ≡ true
    rooted_cons l f q r = r
