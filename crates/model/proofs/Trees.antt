-- What the tree of a list has at a path. Assumes nothing.
use Rattle.std.proofs.Common.{◌≡◌, ℕ, zero, suc, ◌≤◌, Bool, cond, ◌&&◌, ◌||◌, eqb, List, [], ◌∷◌, sym, refl, ap, ◌∙◌, ap₂, ⊎_elim, le_trans, le_refl, arith}
use Rattle.std.proofs.lemmas.Bool.{cases_Bool, and_left, ne_eqb, eq-eqb, and_from, le-leb}
use Rattle.trace.specs.declared.record.Record.{Record}
use Rattle.trace.specs.declared.record.Record.TheVariants.{Call, Return, Unwind, Sample}
use Rattle.model.specs.Positions.{Path, Position, at, start, returned, unwound, move, ends, same, same_path}
use Rattle.metrics.specs.Measures.{Measure, Laws}
use Rattle.metrics.specs.Joins.{joins, over, calling}
use Rattle.model.specs.Summaries.{bookings, value_at, rooted}
use Rattle.model.specs.Trees.{begins, Values, Paths, Inclusive}
use Rattle.model.proofs.Moves.{same_path_refl, same_path_true}
use Rattle.model.proofs.Totals.{over_same, joins_cons, over_join, over_none, over_one, rekeyed, joins_rekeyed}
use Rattle.model.proofs.Rows.{calling_laws, over_from}
use Rattle.model.proofs.Regroup.{same_joins}

-- no level above n
abbrev pub Below : {M : Type 0} → ℕ → List (Position × M) → Type 0
Below n [] = Unit {0}
Below n (r ∷ rows) = (r.0.level ≤ n) × Below n rows

returned_up : (l : ℕ) (q : Path) → l ≤ (returned l q).level
returned_up l [] = omega arith
returned_up l (f ∷ q) = le_refl l

unwound_up : (n : ℕ) (p : Position) → p.level ≤ (unwound n p).level
unwound_up zero p = le_refl _
unwound_up (suc n) p = le_trans (returned_up p.level p.path) (unwound_up n _)

pub move_up : (p : Position) (r : Record) → p.level ≤ (move p r).level
move_up p (Call f) = le_refl _
move_up p Return = returned_up p.level p.path
move_up p (Unwind n) = unwound_up n p
move_up p (Sample s) = le_refl _

pub ends_up : (p : Position) (xs : List Record) → p.level ≤ (ends p xs).level
ends_up p [] = le_refl _
ends_up p (x ∷ xs) = le_trans (move_up p x) (ends_up (move p x) xs)

pub bookings_below : {M : Type 0} (m : Measure M) (p : Position) (xs : List Record) → Below (ends p xs).level (bookings m p xs)
bookings_below m p [] = tt
bookings_below m p (Call f ∷ xs) = (ends_up (move p (Call f)) xs, bookings_below m _ xs)
bookings_below m p (Return ∷ xs) = bookings_below m _ xs
bookings_below m p (Unwind n ∷ xs) = bookings_below m _ xs
bookings_below m p (Sample s ∷ xs) = (ends_up p xs, bookings_below m p xs)

module _ {M : Type 0} {m : Measure M} (laws : Laws m) where
  one_level : (n l : ℕ) (b : Bool) (v : M) → l ≤ n → over m n (λ j. cond (eqb j l && b) v m.none) ≡ cond b v m.none
  one_level n l b v h =
      over_one laws n l (λ j. cond (eqb j l && b) v m.none) h (λ j off. ap (λ t. cond (t && b) v m.none) (ne_eqb j l off))
      ∙ ap (λ t. cond (t && b) v m.none) (eq-eqb l l refl)

  pub levels_rows : (n : ℕ) (q : Path) (rows : List (Position × M)) → Below n rows → over m n (λ j. joins m (same (at j q)) rows) ≡ joins m (λ x. same_path q x.path) rows
  levels_rows n q [] h = over_none laws n _ (λ j _. refl)
  levels_rows n q (r ∷ rows) h =
      over_same m n _ _ (λ j. joins_cons laws (same (at j q)) r rows)
      ∙ over_join laws n (λ j. cond (same (at j q) r.0) r.1 m.none) (λ j. joins m (same (at j q)) rows)
      ∙ ap₂ m.join (one_level n r.0.level (same_path q r.0.path) r.1 h.0) (levels_rows n q rows h.1)
      ∙ sym (joins_cons laws (λ x. same_path q x.path) r rows)

  pub values_stand : Values m
  values_stand xs q = levels_rows (ends start xs).level q (bookings m start xs) (bookings_below m start xs)

  pub inclusive_stands : Inclusive m
  inclusive_stands xs rows shows q =
      same_joins laws same_path same_path_refl same_path_true rows (rekeyed (λ x. x.path) (bookings m start xs))
      (λ k. shows k ∙ values_stand xs k ∙ sym (joins_rekeyed m (λ x. x.path) (same_path k) (bookings m start xs))) (begins q)
      ∙ joins_rekeyed m (λ x. x.path) (begins q) (bookings m start xs)

root_level : (n : ℕ) (q : Path) → over calling n (λ j. rooted n (at j q)) ≡ same_path q []
root_level n q =
    ⊎_elim
    (λ h. over_from n (λ j. rooted n (at j q)) 0 (omega arith) (and_from _ _ h (le-leb 0 n (omega arith))) ∙ sym h)
    (λ h. over_none calling_laws n (λ j. rooted n (at j q)) (λ j _. and_left _ _ h) ∙ sym h)
    (cases_Bool (same_path q []))

pub paths_stand : {M : Type 0} (m : Measure M) → Paths m
paths_stand m xs q =
    let n : ℕ = (ends start xs).level in
    over_join calling_laws n (λ j. rooted n (at j q)) (λ j. value_at calling start xs (at j q))
    ∙ ap₂ ◌||◌ (root_level n q) (levels_rows calling_laws n q (bookings calling start xs) (bookings_below calling start xs))
