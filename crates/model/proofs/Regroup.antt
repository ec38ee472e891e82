-- Two tables with the same value at each key have the same join over any test. Assumes nothing.
use Rattle.std.proofs.Common.{◌≡◌, Bool, true, false, cond, not, ◌&&◌, ◌||◌, List, [], ◌∷◌, ◌++◌, sym, refl, ap, ◌∙◌, ap₂, ⊎_elim}
use Rattle.std.proofs.lemmas.Bool.{cases_Bool, both_ways, and_parts, or_cases, or_left, or_right, not-true, cond-false}
use Rattle.metrics.specs.Measures.{Measure, Laws}
use Rattle.metrics.specs.Joins.{joins}
use Rattle.model.proofs.Totals.{joins_cons, swap, unit_right}

-- one of the keys
abbrev occurs : {K : Type 0} → (K → K → Bool) → List K → K → Bool
occurs eq [] x = false
occurs eq (k ∷ ks) x = eq k x || occurs eq ks x

-- each key of the rows that passes the test is one of ks
abbrev Covered : {K M : Type 0} → (K → K → Bool) → (K → Bool) → List K → List (K × M) → Type 0
Covered eq test ks [] = Unit {0}
Covered eq test ks (r ∷ rows) = (test r.0 ≡ true → occurs eq ks r.0 ≡ true) × Covered eq test ks rows

abbrev keys : {K M : Type 0} → List (K × M) → List K
keys [] = []
keys (r ∷ rows) = r.0 ∷ keys rows

module _ {K M : Type 0} {m : Measure M} (laws : Laws m) (eq : K → K → Bool) (eq_refl : (k : K) → eq k k ≡ true) (eq_true : (k l : K) → eq k l ≡ true → k ≡ l) where
  -- v over the keys that pass, each once
  by_keys : List K → (K → Bool) → (K → M) → M
  by_keys [] test v = m.none
  by_keys (k ∷ ks) test v = m.join (cond (test k) (v k) m.none) (by_keys ks (λ x. test x && not (eq k x)) v)

  by_keys_same : (ks : List K) (test : K → Bool) (v w : K → M) → ((k : K) → v k ≡ w k) → by_keys ks test v ≡ by_keys ks test w
  unfolding by_keys
  by_keys_same [] test v w e = refl
  by_keys_same (k ∷ ks) test v w e = ap₂ m.join (ap (λ z. cond (test k) z m.none) (e k)) (by_keys_same ks _ v w e)

  part : (b c : Bool) (v : M) → cond b v m.none ≡ m.join (cond (b && c) v m.none) (cond (b && not c) v m.none)
  part true true v = sym (unit_right laws v)
  part true false v = sym (laws.unit v)
  part false c v = sym (laws.unit m.none)

  parted : (test other : K → Bool) (rows : List (K × M)) → joins m test rows ≡ m.join (joins m (λ x. test x && other x) rows) (joins m (λ x. test x && not (other x)) rows)
  parted test other [] = sym (laws.unit m.none)
  parted test other (r ∷ rows) =
      joins_cons laws test r rows
      ∙ ap₂ m.join (part (test r.0) (other r.0) r.1) (parted test other rows)
      ∙ swap laws _ _ _ _
      ∙ sym (ap₂ m.join (joins_cons laws (λ x. test x && other x) r rows) (joins_cons laws (λ x. test x && not (other x)) r rows))

  -- the rows with the key k: all pass or none
  at_key : (test : K → Bool) (k : K) (rows : List (K × M)) → joins m (λ x. test x && eq k x) rows ≡ cond (test k) (joins m (eq k) rows) m.none
  at_key test k [] = sym (go (test k))
    where
      go : (b : Bool) → cond b m.none m.none ≡ m.none
      go true = refl
      go false = refl
  at_key test k (r ∷ rows) =
      joins_cons laws (λ x. test x && eq k x) r rows
      ∙ ap (m.join _) (at_key test k rows)
      ∙ go (test r.0) (test k) (eq k r.0) (λ h. ap test (sym (eq_true k r.0 h)))
      ∙ ap (λ w. cond (test k) w m.none) (sym (joins_cons laws (eq k) r rows))
    where
      go : (b c d : Bool) → (d ≡ true → b ≡ c) → m.join (cond (b && d) r.1 m.none) (cond c (joins m (eq k) rows) m.none) ≡ cond c (m.join (cond d r.1 m.none) (joins m (eq k) rows)) m.none
      go true true d h = refl
      go true false true h = absurd (both_ways true (h refl) refl)
      go true false false h = laws.unit _
      go false true true h = absurd (both_ways false refl (h refl))
      go false true false h = refl
      go false false d h = laws.unit _

  fewer : (test : K → Bool) (k : K) (ks : List K) (rows : List (K × M)) → Covered eq test (k ∷ ks) rows → Covered eq (λ x. test x && not (eq k x)) ks rows
  fewer test k ks [] c = tt
  fewer test k ks (r ∷ rows) c = (
    (λ h. let both = and_parts (test r.0) (not (eq k r.0)) h in
        ⊎_elim (λ is. absurd (both_ways _ (not-true _ both.1) is)) (λ later. later) (or_cases (eq k r.0) (occurs eq ks r.0) (c.0 both.0))),
    fewer test k ks rows c.1,
  )

  by_keys_joins : (ks : List K) (test : K → Bool) (rows : List (K × M)) → Covered eq test ks rows → joins m test rows ≡ by_keys ks test (λ k. joins m (eq k) rows)
  unfolding by_keys
  by_keys_joins [] test [] c = refl
  by_keys_joins [] test (r ∷ rows) c =
      ⊎_elim (λ h. absurd (both_ways false refl (c.0 h))) (λ h. cond-false _ _ _ h ∙ by_keys_joins [] test rows c.1) (cases_Bool (test r.0))
  by_keys_joins (k ∷ ks) test rows c =
      parted test (eq k) rows ∙ ap₂ m.join (at_key test k rows) (by_keys_joins ks (λ x. test x && not (eq k x)) rows (fewer test k ks rows c))

  occurs_left : (ks ls : List K) (x : K) → occurs eq ks x ≡ true → occurs eq (ks ++ ls) x ≡ true
  occurs_left [] ls x h = absurd (both_ways false refl h)
  occurs_left (k ∷ ks) ls x h = ⊎_elim (or_left _ _) (λ l. or_right (eq k x) _ (occurs_left ks ls x l)) (or_cases (eq k x) (occurs eq ks x) h)

  occurs_right : (ks ls : List K) (x : K) → occurs eq ls x ≡ true → occurs eq (ks ++ ls) x ≡ true
  occurs_right [] ls x h = h
  occurs_right (k ∷ ks) ls x h = or_right (eq k x) _ (occurs_right ks ls x h)

  covered_from : (test : K → Bool) (ks : List K) (rows : List (K × M)) → ((x : K) → occurs eq (keys rows) x ≡ true → occurs eq ks x ≡ true) → Covered eq test ks rows
  covered_from test ks [] h = tt
  covered_from test ks (r ∷ rows) h =
      ((λ _. h r.0 (or_left _ _ (eq_refl r.0))), covered_from test ks rows (λ x o. h x (or_right (eq r.0 x) _ o)))

  pub same_joins : (rows more : List (K × M)) → ((k : K) → joins m (eq k) rows ≡ joins m (eq k) more) → (test : K → Bool) → joins m test rows ≡ joins m test more
  same_joins rows more e test =
      let ks = keys rows ++ keys more in
      by_keys_joins ks test rows (covered_from test ks rows (λ x. occurs_left (keys rows) (keys more) x))
      ∙ by_keys_same ks test _ _ e
      ∙ sym (by_keys_joins ks test more (covered_from test ks more (λ x. occurs_right (keys rows) (keys more) x)))
