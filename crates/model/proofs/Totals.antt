-- What the laws give of joins. Assumes nothing.
use Rattle.std.proofs.Common.{◌≡◌, ℕ, zero, suc, ◌≤◌, Bool, true, false, cond, List, [], ◌∷◌, ◌++◌, sym, refl, ap, ◌∙◌, ap₂, ⊎_elim, arith}
use Rattle.std.proofs.lemmas.Bool.{cases_eq}
use Rattle.metrics.specs.Measures.{Measure, Laws}
use Rattle.metrics.specs.Joins.{joins, over}

-- the same values under other keys
abbrev pub rekeyed : {K L M : Type 0} → (K → L) → List (K × M) → List (L × M)
rekeyed f [] = []
rekeyed f (r ∷ rs) = (f r.0, r.1) ∷ rekeyed f rs

pub rekeyed_append : {K L M : Type 0} (f : K → L) (xs ys : List (K × M)) → rekeyed f (xs ++ ys) ≡ rekeyed f xs ++ rekeyed f ys
rekeyed_append f [] ys = refl
rekeyed_append f (x ∷ xs) ys = ap (λ r. (f x.0, x.1) ∷ r) (rekeyed_append f xs ys)

pub joins_rekeyed : {K L M : Type 0} (m : Measure M) (f : K → L) (test : L → Bool) (xs : List (K × M)) → joins m test (rekeyed f xs) ≡ joins m (λ k. test (f k)) xs
joins_rekeyed m f test [] = refl
joins_rekeyed m f test (x ∷ xs) = ap (λ w. cond (test (f x.0)) (m.join x.1 w) w) (joins_rekeyed m f test xs)

pub over_same : {M : Type 0} (m : Measure M) (n : ℕ) (s t : ℕ → M) → ((j : ℕ) → s j ≡ t j) → over m n s ≡ over m n t
over_same m zero s t e = e 0
over_same m (suc n) s t e = ap₂ m.join (over_same m n s t e) (e (suc n))

module _ {M : Type 0} {m : Measure M} (laws : Laws m) where
  pub unit_right : (a : M) → m.join a m.none ≡ a
  unit_right a = laws.comm a m.none ∙ laws.unit a

  pub cond_join : (b : Bool) (v w : M) → cond b (m.join v w) w ≡ m.join (cond b v m.none) w
  cond_join true v w = refl
  cond_join false v w = sym (laws.unit w)

  pub joins_cons : {K : Type 0} (test : K → Bool) (x : K × M) (xs : List (K × M)) → joins m test (x ∷ xs) ≡ m.join (cond (test x.0) x.1 m.none) (joins m test xs)
  joins_cons test x xs = cond_join (test x.0) x.1 (joins m test xs)

  pub joins_append : {K : Type 0} (test : K → Bool) (xs ys : List (K × M)) → joins m test (xs ++ ys) ≡ m.join (joins m test xs) (joins m test ys)
  joins_append test [] ys = sym (laws.unit _)
  joins_append test (x ∷ xs) ys =
      joins_cons test x (xs ++ ys) ∙ ap (m.join _) (joins_append test xs ys) ∙ sym (laws.assoc _ _ _) ∙ ap (λ w. m.join w (joins m test ys)) (sym (joins_cons test x xs))

  pub swap : (a b c d : M) → m.join (m.join a b) (m.join c d) ≡ m.join (m.join a c) (m.join b d)
  swap a b c d =
      laws.assoc a b (m.join c d) ∙ ap (m.join a) (sym (laws.assoc b c d) ∙ ap (λ w. m.join w d) (laws.comm b c) ∙ laws.assoc c b d) ∙ sym (laws.assoc a c (m.join b d))

  pub over_join : (n : ℕ) (s t : ℕ → M) → over m n (λ j. m.join (s j) (t j)) ≡ m.join (over m n s) (over m n t)
  over_join zero s t = refl
  over_join (suc n) s t = ap (λ w. m.join w (m.join (s (suc n)) (t (suc n)))) (over_join n s t) ∙ swap _ _ _ _

  pub over_none : (n : ℕ) (t : ℕ → M) → ((j : ℕ) → j ≤ n → t j ≡ m.none) → over m n t ≡ m.none
  over_none zero t e = e 0 (omega arith)
  over_none (suc n) t e = ap₂ m.join (over_none n t (λ j h. e j (omega arith))) (e (suc n) (omega arith)) ∙ laws.unit _

  -- all but one are the unit
  pub over_one : (n k : ℕ) (t : ℕ → M) → k ≤ n → ((j : ℕ) → (j ≡ k → ⊥) → t j ≡ m.none) → over m n t ≡ t k
  over_one zero k t h e = ap t (omega arith)
  over_one (suc n) k t h e =
      ⊎_elim
      (λ is. ap₂ m.join (over_none n t (λ j l. e j (omega arith))) (ap t is) ∙ laws.unit _)
      (λ isnt. ap₂ m.join (over_one n k t (omega arith) e) (e (suc n) isnt) ∙ unit_right _)
      (cases_eq (suc n) k)
