-- One record read is a read-in of limit 1, and read-ins in a row are one: what the loop of a read-in needs. Assumes nothing.
use Rattle.std.proofs.Common.{◌≡◌, ℕ, ◌+◌, ◌<◌, ◌⊎◌, List, [], ◌∷◌, ◌++◌, length, take, drop, Some, None, Ok, Err, sym, refl, ap, ◌∙◌, subst, inl, inr, ⊎_elim, add-zero, arith, length-drop}
use Rattle.std.proofs.Math.Seq.{take-add}
use Rattle.std.proofs.lemmas.List.{drop-drop}
use Rattle.std.proofs.lemmas.List.Sums.{fold-append}
use Rattle.trace.specs.declared.record.Record.{Record}
use Rattle.trace.specs.declared.fault.Fault.{Fault}
use Rattle.trace.specs.Sources.{Ending, answered, rest}
use Rattle.rows.specs.declared.rejection.Rejection.{Rejection}
use Rattle.profile.specs.declared.reading.Stop.{Stop}
use Rattle.profile.specs.declared.reading.Stop.TheVariants.{Limit, End, Faulted, Rejected}
use Rattle.metrics.specs.Measures.{Measure}
use Rattle.profile.specs.Given.{Held, step, Accepts, Given}
use Rattle.profile.specs.Reads.{steps, stop_at, Stops, limited, ended, refused, Reads}

-- an element of two lists in a row is one of the first or one of the second
split : {X : Type 0} (xs ys front : List X) (x : X) (back : List X) → xs ++ ys ≡ front ++ (x ∷ back) → ((more : List X) × (xs ≡ front ++ (x ∷ more))) ⊎ ((more : List X) × (front ≡ xs ++ more) × (ys ≡ more ++ (x ∷ back)))
split [] ys front x back h = inr (front, refl, h)
split (y ∷ xs) ys [] x back h = inl (xs, cc)
split (y ∷ xs) ys (f ∷ front) x back h =
    let same : f ≡ y = cc in
    let left : xs ++ ys ≡ front ++ (x ∷ back) = cc in
    ⊎_elim
    (λ s. inl (s.0, rw (same, s.1)))
    (λ s. inr (s.0, rw (same, s.1), s.2))
    (split xs ys front x back left)

-- an answer that is a record is the first to come
pub some_next : (xs : List Record) (e : Ending) (r : Record) → Ok (Some r) ≡ answered xs e → xs ≡ r ∷ rest xs
some_next xs e r h = grind arith

module _ {M : Type 0} (m : Measure M) where
  -- of no record each is accepted
  none : (a : Held M) (front : List Record) (r : Record) (back : List Record) → [] ≡ front ++ (r ∷ back) → Accepts (steps m a front) r
  none a [] r back h = absurd (cc)
  none a (f ∷ front) r back h = absurd (cc)

  -- nothing is read
  pub none_read : (a : Held M) (xs : List Record) (e : Ending) → Reads m a a xs xs e e 0 0 Limit
  none_read a xs e = record { enough = omega arith; each = none a; left = refl; ending = refl; stops = limited refl refl refl }

  -- the next record is accepted
  pub one_added : (a b : Held M) (xs ys : List Record) (e e' : Ending) (r : Record) → Ok (Some r) ≡ answered xs e → ys ≡ rest xs → e' ≡ e → Given m a b r (Ok tt) → Reads m a b xs ys e e' 1 1 Limit
  one_added a b xs ys e e' r h left same given = let is = some_next xs e r h in rw (is, left, same) (go (rest xs))
    where
      go : (zs : List Record) → Reads m a b (r ∷ zs) zs e e 1 1 Limit
      go zs = record { enough = omega arith; each = one; left = given.1; ending = refl; stops = limited refl refl refl }
        where
          one : (front : List Record) (q : Record) (back : List Record) → r ∷ [] ≡ front ++ (q ∷ back) → Accepts (steps m a front) q
          one [] q back z = let same : r ≡ q = cc in subst (λ x. Accepts a x) same given.0
          one (f ∷ []) q back z = absurd (cc)
          one (f ∷ g ∷ front) q back z = absurd (cc)

  -- the next record is rejected
  pub one_refused : (a b : Held M) (xs ys : List Record) (e e' : Ending) (r : Record) (x : Rejection) → Ok (Some r) ≡ answered xs e → ys ≡ rest xs → e' ≡ e → Given m a b r (Err x) → Reads m a b xs ys e e' 1 0 (Rejected x)
  one_refused a b xs ys e e' r x h left same given = let is = some_next xs e r h in rw (is, left, same, given.0) (go (rest xs))
    where
      go : (zs : List Record) → Reads m a a (r ∷ zs) zs e e 1 0 (Rejected x)
      go zs = record { enough = omega arith; each = none a; left = refl; ending = refl; stops = refused r x (omega arith) refl given.1 refl }

  -- the source is at its end
  pub one_ended : (a : Held M) (xs ys : List Record) (e e' : Ending) → Ok None ≡ answered xs e → ys ≡ rest xs → e' ≡ e → Reads m a a xs ys e e' 1 0 End
  one_ended a [] ys (Ok _) e' h left same = record { enough = omega arith; each = none a; left = refl; ending = same; stops = ended (omega arith) refl refl left }
  one_ended a [] ys (Err f) e' h left same = absurd (cc)
  one_ended a (x ∷ xs) ys e e' h left same = absurd (cc)

  -- the source ends in a fault
  pub one_faulted : (a : Held M) (xs ys : List Record) (e e' : Ending) (f : Fault) → Err f ≡ answered xs e → ys ≡ rest xs → e' ≡ e → Reads m a a xs ys e e' 1 0 (Faulted f)
  one_faulted a [] ys (Ok _) e' f h left same = absurd (cc)
  one_faulted a [] ys (Err k) e' f h left same = let is : f ≡ k = cc in record { enough = omega arith; each = none a; left = refl; ending = same; stops = ended (omega arith) refl (ap Faulted is) left }
  one_faulted a (x ∷ xs) ys e e' f h left same = absurd (cc)

  -- what a reached limit leaves
  left_over : {k : ℕ} {a : Held M} {others now : List Record} {e : Ending} → Stops a k k others now e Limit → now ≡ others
  left_over h = grind arith

  -- the same reason, of the whole
  moved : {a : Held M} {here there rest' : List Record} {e e' : Ending} {k n : ℕ} {stop : Stop} (j : ℕ) → here ≡ there → e' ≡ e → Stops a k n here rest' e' stop → Stops a (j + k) (j + n) there rest' e stop
  moved j same ending (limited h is z) = limited (omega arith) is (z ∙ same)
  moved j same ending (ended below h is z) = ended (omega arith) (sym same ∙ h) (is ∙ ap stop_at ending) z
  moved j same ending (refused r x below h i is) = refused r x (omega arith) (sym same ∙ h) i is

  -- a read-in that its limit stopped, and one that follows it
  pub in_a_row : {a b c : Held M} {xs ys zs : List Record} {e e' e'' : Ending} {j k n : ℕ} {stop : Stop} → Reads m a b xs ys e e' j j Limit → Reads m b c ys zs e' e'' k n stop → Reads m a c xs zs e e'' (j + k) (j + n) stop
  in_a_row {a} {b} {c} {xs} {ys} {zs} {e} {e'} {e''} {j} {k} {n} {stop} p q =
      let over : ys ≡ drop j xs = left_over p.stops in
      let taken : take (j + n) xs ≡ take j xs ++ take n ys = take-add j n xs ∙ ap (λ z. take j xs ++ take n z) (sym over) in
      let onward : (rs : List Record) → steps m b rs ≡ steps m a (take j xs ++ rs) = λ rs. ap (λ z. steps m z rs) p.left ∙ sym (fold-append (step m) a (take j xs) rs) in
      record {
        enough = omega (arith, p.enough, q.enough, ap length over, length-drop j xs);
        each = λ front r back h. ⊎_elim
            (λ s. p.each front r s.0 s.1)
            (λ s. subst (λ z. Accepts z r) (onward s.0 ∙ ap (steps m a) (sym s.1)) (q.each s.0 r back s.2))
            (split (take j xs) (take n ys) front r back (sym taken ∙ h));
        left = q.left ∙ onward (take n ys) ∙ ap (steps m a) (sym taken);
        ending = q.ending ∙ p.ending;
        stops = moved j (ap (drop n) over ∙ drop-drop n j xs) p.ending q.stops;
      }

  -- what stopped a read-in below its limit stops it below another
  relimited : {a : Held M} {rest rest' : List Record} {e : Ending} {k l n : ℕ} {stop : Stop} → n < k → n < l → Stops a k n rest rest' e stop → Stops a l n rest rest' e stop
  relimited below here (limited h is z) = absurd (omega arith)
  relimited below here (ended _ h is z) = ended here h is z
  relimited below here (refused r x _ h j is) = refused r x here h j is

  -- one more record was not to be had
  pub stopped_there : {a b c : Held M} {xs ys zs : List Record} {e e' e'' : Ending} {j limit : ℕ} {stop : Stop} → j < limit → Reads m a b xs ys e e' j j Limit → Reads m b c ys zs e' e'' 1 0 stop → Reads m a c xs zs e e'' limit j stop
  stopped_there {a} {b} {c} {xs} {ys} {zs} {e} {e'} {e''} {j} {limit} {stop} below p q =
      let both : Reads m a c xs zs e e'' (j + 1) j stop = rw add-zero at (in_a_row p q) in
      record { enough = both.enough; each = both.each; left = both.left; ending = both.ending; stops = relimited (omega arith) below both.stops }
