-- A read-in comes out in one way, and never rejects a record for its range. Assumes nothing.
use Rattle.std.proofs.Common.{◌≡◌, ℕ, zero, suc, [], Ok, Err, subst, ◌<◌, ◌≤◌, List, ◌∷◌, ◌++◌, length, take, drop, sym, ap, ◌+◌, ◌-◌, ◌∙◌, ⊎_elim, arith, length-drop}
use Rattle.std.proofs.Math.Seq.{take-add}
use Rattle.std.proofs.lemmas.Bool.{cases_lt}
use Rattle.trace.specs.declared.record.Record.{Record}
use Rattle.trace.specs.Ranges.{InRange}
use Rattle.trace.specs.Sources.{Ending, Every}
use Rattle.rows.specs.declared.rejection.Rejection.{Rejection}
use Rattle.rows.specs.declared.rejection.Rejection.TheVariants.{OutOfRange}
use Rattle.metrics.specs.Measures.{Measure}
use Rattle.profile.specs.declared.reading.Stop.{Stop}
use Rattle.profile.specs.declared.reading.Stop.TheVariants.{Rejected}
use Rattle.profile.specs.Given.{Held, Accepts, Refuses}
use Rattle.profile.specs.Reads.{steps, stop_at, Stops, limited, ended, refused, Reads}
use Rattle.profile.specs.Fixed.{ReadsFixed, NeverOutOfRange}

-- what is accepted is not refused
not_both : {M : Type 0} (a : Held M) (r : Record) (x : Rejection) → Accepts a r → Refuses a r x → ⊥
not_both a r x h j = grind arith

-- a record is refused for one reason
one_reason : {M : Type 0} (a : Held M) (r : Record) (x y : Rejection) → Refuses a r x → Refuses a r y → x ≡ y
one_reason a r x y h j = grind arith

-- where the n-th record is at hand, more than n are taken
pick : (n k : ℕ) (xs : List Record) (r : Record) (later : List Record) → n < k → drop n xs ≡ r ∷ later → take k xs ≡ take n xs ++ (r ∷ take (k - suc n) later)
pick n k xs r later below here =
    let more : k ≡ n + suc (k - suc n) = omega arith in
    ap (λ i. take i xs) more ∙ take-add n (suc (k - suc n)) xs ∙ ap (λ ys. take n xs ++ take (suc (k - suc n)) ys) here

module _ {M : Type 0} (m : Measure M) where
  -- no more is added than the limit allows
  most : {a : Held M} {limit count : ℕ} {rest rest' : List Record} {e : Ending} {stop : Stop} → Stops a limit count rest rest' e stop → count ≤ limit
  most h = grind arith

  -- a read-in does not stop where another goes on
  not_before : {a b c : Held M} (records : List Record) {left left' : List Record} {e f : Ending} {limit : ℕ} (n k : ℕ) {s t : Stop} → b ≡ steps m a (take n records) → Stops b limit n (drop n records) left e s → Reads m a c records left' e f limit k t → n < k → ⊥
  not_before records n k same (limited h is z) q below = omega (arith, most q.stops)
  not_before records n k same (ended _ h is z) q below = omega (arith, q.enough, ap length h, length-drop n records)
  not_before records n k same (refused r x _ h j is) q below = not_both _ r x (q.each (take n records) r _ (pick n k records r _ below h)) (rw same at j)

  -- from one summary and one rest, a read-in stops in one way
  stops_alike : (a : Held M) {limit n : ℕ} {rest left left' : List Record} {e : Ending} {s t : Stop} → Stops a limit n rest left e s → Stops a limit n rest left' e t → (s ≡ t) × (left ≡ left')
  stops_alike a p q = grind (arith, one_reason)

  pub reads_fixed : ReadsFixed m
  reads_fixed a b c records left left' e f f' limit n k s t p q =
      let equal : n ≡ k = ⊎_elim
      (λ h. absurd (not_before records n k p.left p.stops q h))
      (λ h. ⊎_elim (λ g. absurd (not_before records k n q.left q.stops p g)) (λ g. omega arith) (cases_lt k n))
      (cases_lt n k) in
      let same : b ≡ c = p.left ∙ ap (λ i. steps m a (take i records)) equal ∙ sym q.left in
      let other : Stops b limit n (drop n records) left' e t = rw (same, equal) q.stops in
      let both = stops_alike b p.stops other in
      record { summary = same; records = both.1; ending = p.ending ∙ sym q.ending; added = equal; stopped = both.0 }

  every_drop : (n : ℕ) (xs : List Record) → Every InRange xs → Every InRange (drop n xs)
  every_drop zero xs h = h
  every_drop (suc n) [] h = tt
  every_drop (suc n) (x ∷ xs) h = every_drop n xs h.1

  ending_accepts : (e : Ending) → stop_at e ≡ Rejected OutOfRange → ⊥
  ending_accepts (Ok u) h = absurd (cc)
  ending_accepts (Err f) h = absurd (cc)

  -- each record of the source is in range
  pub never_out_of_range : (a b : Held M) (records left : List Record) (e f : Ending) (limit count : ℕ) (stop : Stop) → Every InRange records → Reads m a b records left e f limit count stop → NeverOutOfRange stop
  never_out_of_range a b records left e f limit count stop every p h = go p.stops
    where
      go : Stops b limit count (drop count records) left e stop → ⊥
      go (limited g is z) = absurd (cc)
      go (ended below g is z) = ending_accepts e (sym is ∙ h)
      go (refused r x below g j is) =
          let same : x ≡ OutOfRange = cc in
          let ranged : Every InRange (r ∷ left) = subst (Every InRange) g (every_drop count records every) in
          subst (λ (y : Rejection). Refuses b r y) same j ranged.0
