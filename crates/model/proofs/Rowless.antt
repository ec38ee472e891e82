-- A record's context has a row. Assumes nothing.
use Rattle.std.proofs.Common.{◌≡◌, ℕ, ◌<◌, ◌≤◌, true, false, cond, List, [], ◌∷◌, sym, refl, ap, ◌∙◌, subst, ⊎_elim, arith}
use lib.Seq.{drop-nil}
use Rattle.std.proofs.lemmas.Bool.{cases_Bool, cases_lt, both_ways, or_parts, cond-false}
use Rattle.trace.specs.declared.record.Record.{Record}
use Rattle.trace.specs.declared.record.Record.TheVariants.{Call, Return, Unwind, Sample}
use Rattle.model.specs.Positions.{Position, start, move, ends, same, same_path}
use Rattle.metrics.specs.Measures.{Measure, Laws}
use Rattle.metrics.specs.Joins.{joins, calling}
use Rattle.model.specs.Summaries.{booking, bookings, value_at, rooted, Rowless}
use Rattle.model.proofs.Moves.{same_true, same_path_true}
use Rattle.model.proofs.Totals.{joins_append}
use Rattle.model.proofs.Rows.{calling_laws, Tail, Known, move_known, rooted_from}
use Rattle.model.proofs.Trees.{Below, bookings_below}

-- no row above the last level
above_none : {M : Type 0} (m : Measure M) (n : ℕ) (x : Position) (rows : List (Position × M)) → Below n rows → n < x.level → joins m (same x) rows ≡ m.none
above_none m n x [] b h = refl
above_none m n x (r ∷ rows) b h =
    ⊎_elim
    (λ is. let low : x.level ≤ n = subst (λ (y : Position). y.level ≤ n) (sym (same_true x r.0 is)) b.0 in absurd (omega arith))
    (λ isnt. cond-false _ _ _ isnt ∙ above_none m n x rows b.1 h)
    (cases_Bool (same x r.0))

module _ {M : Type 0} {m : Measure M} (laws : Laws m) (x : Position) (long : x.path ≡ [] → ⊥) where
  booking_none : (p : Position) (r : Record) → joins calling (same x) (booking calling p r) ≡ false → (Tail p x → ⊥) → joins m (same x) (booking m p r) ≡ m.none
  booking_none p (Call f) h t = ⊎_elim (λ is. absurd (both_ways _ h (ap (λ b. cond b true false) is))) (λ isnt. cond-false _ _ _ isnt) (cases_Bool (same x (move p (Call f))))
  booking_none p Return h t = refl
  booking_none p (Unwind n) h t = refl
  booking_none p (Sample s) h t = ⊎_elim (λ is. absurd (t (0, same_true x p is))) (λ isnt. cond-false _ _ _ isnt) (cases_Bool (same x p))

  away : (p : Position) (xs : List Record) → value_at calling p xs x ≡ false → (Tail p x → ⊥) → value_at m p xs x ≡ m.none
  away p [] h t = refl
  away p (r ∷ rs) h t =
      let parts = or_parts (joins calling (same x) (booking calling p r)) (value_at calling (move p r) rs x) (sym (joins_append calling_laws (same x) (booking calling p r) (bookings calling (move p r) rs)) ∙ h) in
      let on : Tail (move p r) x → ⊥ = λ u.
      ⊎_elim long (⊎_elim (λ c. both_ways _ parts.0 c) t) (subst (Known p (booking calling p r)) (sym u.1) (move_known p r u.0)) in
      joins_append laws (same x) (booking m p r) (bookings m (move p r) rs)
      ∙ ap (λ w. m.join w (value_at m (move p r) rs x)) (booking_none p r parts.0 t)
      ∙ laws.unit _
      ∙ away (move p r) rs parts.1 on

pub rowless_stands : {M : Type 0} {m : Measure M} → Laws m → Rowless m
rowless_stands {m} laws xs x h =
    let n : ℕ = (ends start xs).level in
    let parts = or_parts (rooted n x) (value_at calling start xs x) h in
    ⊎_elim
    (λ root.
    let none : x.path ≡ [] = same_path_true x.path [] root in
    ⊎_elim
    (λ above. above_none m n x (bookings m start xs) (bookings_below m start xs) above)
    (λ low. absurd (both_ways _ parts.0 (rooted_from n x none low)))
    (cases_lt n x.level))
    (λ off.
    let long : x.path ≡ [] → ⊥ = λ e. both_ways _ off (ap (λ q. same_path q []) e) in
    away laws x long start xs parts.1 (λ t. long (ap (λ z. z.path) t.1 ∙ drop-nil t.0)))
    (cases_Bool (same_path x.path []))
