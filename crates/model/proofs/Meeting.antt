-- The rows that go to one context, looked for from there, and the value half of the join. Assumes nothing.
use Rattle.std.proofs.Common.{◌≡◌, ℕ, ◌+◌, ◌≤◌, Bool, true, false, cond, List, [], ◌∷◌, ◌++◌, length, sym, refl, ap, ◌∙◌, subst, ap₂, ⊎_elim, append_assoc}
use Rattle.std.proofs.lemmas.Bool.{cases_Bool, both_ways, and_left, ne_eqb, cond-true, cond-false}
use Rattle.trace.specs.declared.record.Record.{Record}
use Rattle.trace.specs.declared.record.Record.TheVariants.{Call, Return, Unwind, Sample}
use Rattle.model.specs.Positions.{Position, start, move, ends, same, moved}
use Rattle.metrics.specs.Measures.{Measure, Laws}
use Rattle.metrics.specs.Joins.{joins, over}
use Rattle.model.specs.Summaries.{booking, bookings, value_at, source, meeting}
use Rattle.model.proofs.Moves.{same_refl, same_true, moved_start, moved_move, source_of, source_level}
use Rattle.model.proofs.Totals.{rekeyed, rekeyed_append, joins_rekeyed, over_same, joins_cons, joins_append, over_join, over_none, over_one}

-- a list of bookings from a position, and from where that goes
pub bookings_append : {M : Type 0} (m : Measure M) (p : Position) (xs ys : List Record) → bookings m p (xs ++ ys) ≡ bookings m p xs ++ bookings m (ends p xs) ys
bookings_append m p [] ys = refl
bookings_append m p (x ∷ xs) ys = ap (λ r. booking m p x ++ r) (bookings_append m (move p x) xs ys) ∙ sym (append_assoc (booking m p x) (bookings m (move p x) xs) _)

booking_moved : {M : Type 0} (m : Measure M) (e p : Position) (r : Record) → booking m (moved e p) r ≡ rekeyed (moved e) (booking m p r)
booking_moved m e p (Call f) = refl
booking_moved m e p Return = refl
booking_moved m e p (Unwind n) = refl
booking_moved m e p (Sample s) = refl

pub bookings_moved : {M : Type 0} (m : Measure M) (e p : Position) (xs : List Record) → bookings m (moved e p) xs ≡ rekeyed (moved e) (bookings m p xs)
bookings_moved m e p [] = refl
bookings_moved m e p (x ∷ xs) =
    ap₂ (λ r s. r ++ s) (booking_moved m e p x) (ap (λ q. bookings m q xs) (sym (moved_move e p x)) ∙ bookings_moved m e (move p x) xs)
    ∙ sym (rekeyed_append (moved e) (booking m p x) (bookings m (move p x) xs))

module _ {M : Type 0} {m : Measure M} (laws : Laws m) (e y : Position) where
  -- what a row at k with the value v brings to y, by the levels
  brings : Position → M → ℕ → M
  brings k v j = cond (same y (moved e (source e y j))) (cond (same (source e y j) k) v m.none) m.none

  once_not : (k : Position) (v : M) → same y (moved e k) ≡ false → over m (length e.path + y.level) (brings k v) ≡ m.none
  unfolding brings
  once_not k v off = over_none laws _ _ (λ j _. go j (same y (moved e (source e y j))) refl (same (source e y j) k) refl)
    where
      go : (j : ℕ) (b : Bool) → same y (moved e (source e y j)) ≡ b → (c : Bool) → same (source e y j) k ≡ c → cond b (cond c v m.none) m.none ≡ m.none
      go j true p true q = absurd (both_ways _ off (ap (λ x. same y (moved e x)) (sym (same_true (source e y j) k q)) ∙ p))
      go j true p false q = refl
      go j false p c q = refl

  once_is : (k : Position) (v : M) → same y (moved e k) ≡ true → over m (length e.path + y.level) (brings k v) ≡ v
  unfolding brings
  once_is k v on =
      let to : y ≡ moved e k = same_true y (moved e k) on in
      let from : source e y k.level ≡ k = ap (λ z. source e z k.level) to ∙ source_of e k in
      let near : k.level ≤ length e.path + y.level = subst (λ (z : Position). k.level ≤ length e.path + z.level) (sym to) (source_level e k) in
      over_one laws _ k.level (brings k v) near (λ j off. go (same y (moved e (source e y j))) (same (source e y j) k) (and_left _ _ (ne_eqb j k.level off)))
      ∙ cond-true _ _ _ (ap (λ x. same y (moved e x)) from ∙ on)
      ∙ cond-true _ _ _ (ap (λ x. same x k) from ∙ same_refl k)
    where
      go : (b c : Bool) → c ≡ false → cond b (cond c v m.none) m.none ≡ m.none
      go true c off = cond-false c _ _ off
      go false c off = refl

  once : (k : Position) (v : M) → over m (length e.path + y.level) (brings k v) ≡ cond (same y (moved e k)) v m.none
  once k v =
      ⊎_elim
      (λ on. once_is k v on ∙ sym (cond-true _ _ _ on))
      (λ off. once_not k v off ∙ sym (cond-false _ _ _ off))
      (cases_Bool (same y (moved e k)))

  split : (b c : Bool) (v w : M) → cond b (cond c (m.join v w) w) m.none ≡ m.join (cond b (cond c v m.none) m.none) (cond b w m.none)
  split true true v w = refl
  split true false v w = sym (laws.unit w)
  split false c v w = sym (laws.unit m.none)

  -- The rule of the join over any rows: what is looked for from y is the join over the rows that go to y.
  pub meeting_rows : (rows : List (Position × M)) → meeting m e (λ x. joins m (same x) rows) y ≡ joins m (λ x. same y (moved e x)) rows
  unfolding brings
  meeting_rows [] = over_none laws _ _ (λ j _. go (same y (moved e (source e y j))))
    where
      go : (b : Bool) → cond b m.none m.none ≡ m.none
      go true = refl
      go false = refl
  meeting_rows (r ∷ rows) =
      over_same m _ _ _ (λ j. split (same y (moved e (source e y j))) (same (source e y j) r.0) r.1 (joins m (same (source e y j)) rows))
      ∙ over_join laws _ (brings r.0 r.1) (λ j. cond (same y (moved e (source e y j))) (joins m (same (source e y j)) rows) m.none)
      ∙ ap₂ m.join (once r.0 r.1) (meeting_rows rows)
      ∙ sym (joins_cons laws (λ x. same y (moved e x)) r rows)

  -- the records of a list that starts at e
  pub value_moved : (ys : List Record) → value_at m e ys y ≡ meeting m e (value_at m start ys) y
  value_moved ys =
      ap (λ q. joins m (same y) (bookings m q ys)) (sym (moved_start e))
      ∙ ap (joins m (same y)) (bookings_moved m e start ys)
      ∙ joins_rekeyed m (moved e) (same y) (bookings m start ys)
      ∙ sym (meeting_rows (bookings m start ys))

pub value_append : {M : Type 0} {m : Measure M} (laws : Laws m) (xs ys : List Record) (y : Position) → value_at m start (xs ++ ys) y ≡ m.join (value_at m start xs y) (meeting m (ends start xs) (value_at m start ys) y)
value_append {m} laws xs ys y =
    ap (joins m (same y)) (bookings_append m start xs ys)
    ∙ joins_append laws (same y) (bookings m start xs) (bookings m (ends start xs) ys)
    ∙ ap (m.join _) (value_moved laws (ends start xs) y ys)
