-- Inclusive values, handed up. Assumes nothing.
use Rattle.std.proofs.Common.{◌≡◌, ℕ, zero, suc, ◌-◌, ◌<◌, ◌≤◌, Bool, true, false, cond, ◌&&◌, ◌||◌, eqb, List, ◌∷◌, length, get_or, drop, set, sym, refl, ap, ◌∙◌, subst, ap₂, ⊎_elim, arith, length-drop, length-set, get_or-set_other, get_or-set_same}
use Rattle.std.proofs.lemmas.Bool.{cases_Bool, cases_eq, cases_lt, both_ways, cond-true, cond-false, eq-eqb, ne_eqb, eqb-true, lt-ltb, le-ltb}
use Rattle.model.specs.Positions.{Path, Position, at, same_path}
use Rattle.metrics.specs.Measures.{Measure, Laws}
use Rattle.metrics.specs.Joins.{joins}
use Rattle.model.specs.Trees.{begins, inclusive}
use Rattle.rows.specs.Shapes.{Shape, blank}
use Rattle.rows.specs.Sound.{Table}
use Rattle.rows.specs.Reading.{context, listed}
use Rattle.rows.specs.Columns.{numbered, holder, stands, inclusive_of, Filling, Filled, leaves, Included}
use Rattle.model.proofs.Moves.{same_path_refl, same_path_true}
use Rattle.model.proofs.Rows.{alike}
use Rattle.model.proofs.Totals.{unit_right}
use Rattle.rows.proofs.Sounds.{up_one, top_one, roots_rise, level_low}
use Rattle.rows.proofs.Readings.{context_child, contexts_apart, depth_is}
use Rattle.rows.proofs.Flats.{first_root}

-- ---- joins by number
listed_numbered : {M : Type 0} (m : Measure M) (s : List Shape) (v : List M) (n : ℕ) (test : Position → Bool) → joins m test (listed m.none s v n) ≡ joins m (λ j. test (context s j)) (numbered m.none v n)
listed_numbered m s v zero test = refl
listed_numbered m s v (suc n) test = ap (λ w. cond (test (context s n)) (m.join (get_or v n m.none) w) w) (listed_numbered m s v n test)

joins_same : {M : Type 0} (m : Measure M) (v : List M) (n : ℕ) (a b : ℕ → Bool) → ((j : ℕ) → j < n → a j ≡ b j) → joins m a (numbered m.none v n) ≡ joins m b (numbered m.none v n)
joins_same m v zero a b e = refl
joins_same m v (suc n) a b e = ap₂ (λ t w. cond t (m.join (get_or v n m.none) w) w) (e n (omega arith)) (joins_same m v n a b (λ j h. e j (omega arith)))

module _ {M : Type 0} {m : Measure M} (laws : Laws m) (v : List M) where
  -- two tests that no row passes both
  joins_two : (n : ℕ) (c a b : ℕ → Bool) → ((j : ℕ) → j < n → c j ≡ (a j || b j)) → ((j : ℕ) → j < n → (a j && b j) ≡ false) → joins m c (numbered m.none v n) ≡ m.join (joins m a (numbered m.none v n)) (joins m b (numbered m.none v n))
  joins_two zero c a b e d = sym (laws.unit m.none)
  joins_two (suc n) c a b e d =
      ap₂ (λ t w. cond t (m.join (get_or v n m.none) w) w) (e n (omega arith)) (joins_two n c a b (λ j h. e j (omega arith)) (λ j h. d j (omega arith)))
      ∙ go (a n) (b n) (d n (omega arith)) (get_or v n m.none) (joins m a (numbered m.none v n)) (joins m b (numbered m.none v n))
    where
      go : (x y : Bool) → (x && y) ≡ false → (u p q : M) → cond (x || y) (m.join u (m.join p q)) (m.join p q) ≡ m.join (cond x (m.join u p) p) (cond y (m.join u q) q)
      go true true h u p q = absurd (both_ways true h refl)
      go true false h u p q = sym (laws.assoc u p q)
      go false true h u p q = sym (laws.assoc u p q) ∙ ap (λ w. m.join w q) (laws.comm u p) ∙ laws.assoc p u q
      go false false h u p q = refl

  joins_none : (n : ℕ) (a : ℕ → Bool) → ((j : ℕ) → j < n → a j ≡ false) → joins m a (numbered m.none v n) ≡ m.none
  joins_none zero a e = refl
  joins_none (suc n) a e = cond-false _ _ _ (e n (omega arith)) ∙ joins_none n a (λ j h. e j (omega arith))

  joins_one : (n k : ℕ) → k < n → joins m (λ j. eqb j k) (numbered m.none v n) ≡ get_or v k m.none
  joins_one zero k h = absurd (omega arith)
  joins_one (suc n) k h = ⊎_elim
      (λ (e : n ≡ k). cond-true _ _ _ (eq-eqb n k e) ∙ ap (m.join (get_or v n m.none)) (joins_none n (λ j. eqb j k) (λ j l. ne_eqb j k (λ (z : j ≡ k). omega arith))) ∙ unit_right laws _ ∙ ap (λ j. get_or v j m.none) e)
      (λ (e : n ≡ k → ⊥). cond-false _ _ _ (ne_eqb n k e) ∙ joins_one n k (omega arith))
      (cases_eq n k)

-- ---- paths that begin alike
begins_is : (q p : Path) → begins q p ≡ true → (q ≡ drop (length p - length q) p) × (length q ≤ length p)
begins_is q p e =
    let is = same_path_true q (drop (length p - length q) p) e in
    let l : length q ≡ length p - (length p - length q) = ap length is ∙ length-drop (length p - length q) p in
    (is, omega arith)

begins_more : (q p : Path) (f : ℕ) → length q ≤ length p → begins q (f ∷ p) ≡ begins q p
begins_more q p f h = ap (λ k. same_path q (drop k (f ∷ p))) {x = suc (length p) - length q} {y = suc (length p - length q)} (omega arith)

-- ---- where values stand, in a tree
module _ (s : List Shape) (n : ℕ) (t : Table s n 0) where
  holder_low : (i d j : ℕ) → j < i → holder s i d j ≡ j
  holder_low i zero j h = refl
  holder_low i (suc d) j h = cond-true _ _ _ (lt-ltb j i h)

  holder_high : (i d j : ℕ) → i ≤ j → holder s i (suc d) j ≡ holder s i d (get_or s j blank).parent
  holder_high i d j h = cond-false _ _ _ (le-ltb j i h)

  only_root : (j : ℕ) → j < n → (get_or s j blank).depth ≡ 0 → j ≡ 0
  only_root j h d =
      let z = top_one s n 0 t j h d in
      ⊎_elim (λ (e : j ≡ 0). e)
      (λ (e : j ≡ 0 → ⊥). let p : 0 < j = omega arith in absurd (omega (arith, roots_rise s n j h z, roots_rise s j 0 p (first_root s n 0 t), t.levels)))
      (cases_eq j 0)

  named_one : (j : ℕ) → j < n → 0 < (get_or s j blank).depth → 0 < (get_or s j blank).function
  named_one j h d = ⊎_elim
      (λ (z : (get_or s j blank).function ≡ 0). absurd (omega (arith, ((t.good j h).root z).depth)))
      (λ (z : (get_or s j blank).function ≡ 0 → ⊥). omega arith)
      (cases_eq (get_or s j blank).function 0)

  pub parent_low : (j : ℕ) → j < n → (get_or s j blank).parent ≤ j
  parent_low j h = ⊎_elim
      (λ (z : (get_or s j blank).function ≡ 0). omega (arith, ((t.good j h).root z).parent))
      (λ (z : (get_or s j blank).function ≡ 0 → ⊥). omega (arith, ((t.good j h).child (omega arith)).parent))
      (cases_eq (get_or s j blank).function 0)

  -- the row r hands up
  holder_step : (r : ℕ) → 0 < r → r < n → (d j : ℕ) → j < n → (get_or s j blank).depth ≡ d → holder s r d j ≡ cond (eqb (holder s (suc r) d j) r) (get_or s r blank).parent (holder s (suc r) d j)
  holder_step r pos hr zero j h e = let z = only_root j h e in sym (cond-false _ _ _ (ne_eqb j r (λ (y : j ≡ r). omega arith)))
  holder_step r pos hr (suc d) j h e =
      let q = up_one s n 0 t j h (omega arith) in
      ⊎_elim
      (λ (l : j < r). holder_low r (suc d) j l ∙ sym (ap (λ x. cond (eqb x r) (get_or s r blank).parent x) (holder_low (suc r) (suc d) j (omega arith)) ∙ cond-false _ _ _ (ne_eqb j r (λ (y : j ≡ r). omega arith))))
      (λ (l : r ≤ j). ⊎_elim
      (λ (y : j ≡ r).
      holder_high r d j l ∙ holder_low r d (get_or s j blank).parent (omega (arith, q.parent)) ∙ ap (λ k. (get_or s k blank).parent) y
      ∙ sym (ap (λ x. cond (eqb x r) (get_or s r blank).parent x) (holder_low (suc r) (suc d) j (omega arith)) ∙ cond-true _ _ _ (eq-eqb j r y)))
      (λ (y : j ≡ r → ⊥).
      holder_high r d j l ∙ holder_step r pos hr d (get_or s j blank).parent (omega (arith, q.parent)) (omega (arith, q.depth))
      ∙ sym (ap (λ x. cond (eqb x r) (get_or s r blank).parent x) (holder_high (suc r) d j (omega arith))))
      (cases_eq j r))
      (cases_lt j r)

  begins_self : (q : Path) → begins q q ≡ true
  begins_self q = ap (λ k. same_path q (drop k q)) {x = length q - length q} {y = 0} (omega arith) ∙ same_path_refl q

  begins_up : (r d j : ℕ) → j < n → (get_or s j blank).depth ≡ d → holder s (suc r) d j ≡ r → begins (context s r).path (context s j).path ≡ true
  begins_up r zero j h e y = subst (λ k. begins (context s k).path (context s j).path ≡ true) y (begins_self (context s j).path)
  begins_up r (suc d) j h e y =
      let q = up_one s n 0 t j h (omega arith) in
      let f = named_one j h (omega arith) in
      ⊎_elim
      (λ (l : j < suc r). subst (λ k. begins (context s k).path (context s j).path ≡ true) (sym (holder_low (suc r) (suc d) j l) ∙ y) (begins_self (context s j).path))
      (λ (l : suc r ≤ j).
      let p = (get_or s j blank).parent in
      let b = begins_up r d p (omega (arith, q.parent)) (omega (arith, q.depth)) (sym (holder_high (suc r) d j l) ∙ y) in
      ap (λ (x : Position). begins (context s r).path x.path) (context_child s n 0 t j h f)
      ∙ begins_more (context s r).path (context s p).path (get_or s j blank).function (begins_is (context s r).path (context s p).path b).1 ∙ b)
      (cases_lt j (suc r))

  differ : (r j : ℕ) → r < n → j < n → (j ≡ r → ⊥) → begins (context s r).path (context s j).path ≡ true → length (context s r).path < length (context s j).path
  differ r j hr h ne b =
      let w = begins_is (context s r).path (context s j).path b in
      ⊎_elim
      (λ (l : length (context s r).path < length (context s j).path). l)
      (λ (l : length (context s j).path ≤ length (context s r).path).
      let p : (context s r).path ≡ (context s j).path = w.0 ∙ ap (λ k. drop k (context s j).path) {x = length (context s j).path - length (context s r).path} {y = 0} (omega arith) in
      let lv : (get_or s r blank).level ≡ (get_or s j blank).level = omega (arith, level_low s n 0 t r hr, level_low s n 0 t j h) in
      absurd (ne (sym (contexts_apart s n 0 t r j hr h (ap₂ at lv p)))))
      (cases_lt (length (context s r).path) (length (context s j).path))

  begins_down : (r d j : ℕ) → r < n → j < n → (get_or s j blank).depth ≡ d → begins (context s r).path (context s j).path ≡ true → holder s (suc r) d j ≡ r
  begins_down r zero j hr h e b = ⊎_elim (λ (y : j ≡ r). y) (λ (y : j ≡ r → ⊥). absurd (omega (arith, differ r j hr h y b, depth_is s j))) (cases_eq j r)
  begins_down r (suc d) j hr h e b =
      let q = up_one s n 0 t j h (omega arith) in
      let f = named_one j h (omega arith) in
      let p = (get_or s j blank).parent in
      ⊎_elim
      (λ (y : j ≡ r). holder_low (suc r) (suc d) j (omega arith) ∙ y)
      (λ (y : j ≡ r → ⊥).
      let l = differ r j hr h y b in
      let lp : length (context s r).path ≤ length (context s p).path = omega (arith, l, depth_is s j, depth_is s p, q.depth) in
      let b' : begins (context s r).path (context s p).path ≡ true = sym (begins_more (context s r).path (context s p).path (get_or s j blank).function lp) ∙ sym (ap (λ (x : Position). begins (context s r).path x.path) (context_child s n 0 t j h f)) ∙ b in
      let i = begins_down r d p hr (omega (arith, q.parent)) (omega (arith, q.depth)) b' in
      ⊎_elim
      (λ (z : j < suc r). absurd (omega (arith, i, holder_low (suc r) d p (omega (arith, q.parent)), q.parent)))
      (λ (z : suc r ≤ j). holder_high (suc r) d j z ∙ i)
      (cases_lt j (suc r)))
      (cases_eq j r)

  stands_begins : (r j : ℕ) → r < n → j < n → stands s (suc r) r j ≡ begins (context s r).path (context s j).path
  stands_begins r j hr h = alike _ _
      (λ e. begins_up r (get_or s j blank).depth j h refl (eqb-true _ r e))
      (λ e. eq-eqb _ r (begins_down r (get_or s j blank).depth j hr h refl e))

  module _ {M : Type 0} {m : Measure M} (laws : Laws m) (v : List M) where
    pub stands_inclusive : (r : ℕ) → r < n → joins m (stands s (suc r) r) (numbered m.none v n) ≡ inclusive_of m s v n r
    stands_inclusive r hr = joins_same m v n _ _ (λ j h. stands_begins r j hr h) ∙ sym (listed_numbered m s v n (λ x. begins (context s r).path x.path))

    pub fill_start : (col : List M) → n ≤ length col → ((k : ℕ) → k < n → get_or col k m.none ≡ get_or v k m.none) → Filling m s v col n n
    fill_start col long e = record {
      long = long;
      below = λ k h _. e k h ∙ sym (joins_one laws v n k h) ∙ joins_same m v n _ _ (λ j l. ap (λ x. eqb x k) (sym (holder_low n (get_or s j blank).depth j l)));
      above = λ k h l. absurd (omega arith);
    }

    pub fill_step : (col col' : List M) (r : ℕ) → 0 < r → r < n → Filling m s v col n (suc r) → col' ≡ set col (get_or s r blank).parent (m.join (get_or col (get_or s r blank).parent m.none) (get_or col r m.none)) → Filling m s v col' n r
    fill_step col col' r pos hr x e =
        let dr : 0 < (get_or s r blank).depth = ⊎_elim (λ (z : (get_or s r blank).depth ≡ 0). absurd (omega (arith, only_root r hr z))) (λ (z : (get_or s r blank).depth ≡ 0 → ⊥). omega arith) (cases_eq (get_or s r blank).depth 0) in
        let q = up_one s n 0 t r hr dr in
        let p = (get_or s r blank).parent in
        let lp : p < r = q.parent in
        let w = m.join (get_or col p m.none) (get_or col r m.none) in
        let step : (j : ℕ) → j < n → holder s r (get_or s j blank).depth j ≡ cond (eqb (holder s (suc r) (get_or s j blank).depth j) r) p (holder s (suc r) (get_or s j blank).depth j) = (λ j h. holder_step r pos hr (get_or s j blank).depth j h refl) in
        record {
          long = subst (λ (c : List M). n ≤ length c) (sym e) (omega (arith, length-set col p w, x.long));
          below = λ k h l. ap (λ c. get_or c k m.none) e ∙ ⊎_elim
              (λ (y : k ≡ p).
              subst (λ j. get_or (set col p w) j m.none ≡ joins m (stands s r j) (numbered m.none v n)) (sym y)
              (get_or-set_same col p w m.none (omega (arith, x.long))
              ∙ ap₂ m.join (x.below p (omega arith) (omega arith)) (x.below r hr (omega arith))
              ∙ sym (joins_two laws v n (stands s r p) (stands s (suc r) p) (stands s (suc r) r)
              (λ j hj. ap (λ z. eqb z p) (step j hj) ∙ meet (holder s (suc r) (get_or s j blank).depth j) p r)
              (λ j hj. apart_at (holder s (suc r) (get_or s j blank).depth j) p r lp))))
              (λ (y : k ≡ p → ⊥).
              get_or-set_other col p k w m.none y
              ∙ x.below k h (omega arith)
              ∙ joins_same m v n _ _ (λ j hj. sym (ap (λ z. eqb z k) (step j hj) ∙ miss (holder s (suc r) (get_or s j blank).depth j) p r k y l)))
              (cases_eq k p);
          above = λ k h l. ap (λ c. get_or c k m.none) e ∙ get_or-set_other col p k w m.none (λ (z : k ≡ p). omega arith) ∙ ⊎_elim
              (λ (y : k ≡ r). subst (λ j. get_or col j m.none ≡ inclusive_of m s v n j) (sym y) (x.below r hr (omega arith) ∙ stands_inclusive r hr))
              (λ (y : k ≡ r → ⊥). x.above k h (omega arith))
              (cases_eq k r);
        }
      where
        meet : (a p r : ℕ) → eqb (cond (eqb a r) p a) p ≡ (eqb a p || eqb a r)
        meet a p r = ⊎_elim
            (λ (y : eqb a r ≡ true). ap (λ b. eqb (cond b p a) p) y ∙ eq-eqb p p refl ∙ sym (ap (λ b. eqb a p || b) y ∙ or_true (eqb a p)))
            (λ (y : eqb a r ≡ false). ap (λ b. eqb (cond b p a) p) y ∙ sym (ap (λ b. eqb a p || b) y ∙ or_no (eqb a p)))
            (cases_Bool (eqb a r))
          where
            or_true : (b : Bool) → (b || true) ≡ true
            or_true true = refl
            or_true false = refl

            or_no : (b : Bool) → (b || false) ≡ b
            or_no true = refl
            or_no false = refl

        apart_at : (a p r : ℕ) → p < r → (eqb a p && eqb a r) ≡ false
        apart_at a p r l = ⊎_elim
            (λ (y : a ≡ p). ap (λ b. eqb a p && b) (ne_eqb a r (λ (z : a ≡ r). omega arith)) ∙ and_no (eqb a p))
            (λ (y : a ≡ p → ⊥). ap (λ b. b && eqb a r) (ne_eqb a p y))
            (cases_eq a p)
          where
            and_no : (b : Bool) → (b && false) ≡ false
            and_no true = refl
            and_no false = refl

        miss : (a p r k : ℕ) → (k ≡ p → ⊥) → k < r → eqb (cond (eqb a r) p a) k ≡ eqb a k
        miss a p r k ne l = ⊎_elim
            (λ (y : a ≡ r). ap (λ b. eqb (cond b p a) k) (eq-eqb a r y) ∙ ne_eqb p k (λ z. ne (sym z)) ∙ sym (ne_eqb a k (λ (z : a ≡ k). omega arith)))
            (λ (y : a ≡ r → ⊥). ap (λ b. eqb (cond b p a) k) (ne_eqb a r y))
            (cases_eq a r)

    pub fill_end : (col : List M) → Filling m s v col n 1 → (k : ℕ) → k < n → get_or col k m.none ≡ inclusive_of m s v n k
    fill_end col x k h = ⊎_elim
        (λ (y : k ≡ 0). subst (λ j. get_or col j m.none ≡ inclusive_of m s v n j) (sym y) (x.below 0 (omega arith) (omega arith) ∙ stands_inclusive 0 (omega arith)))
        (λ (y : k ≡ 0 → ⊥). x.above k h (omega arith))
        (cases_eq k 0)

pub leaves_listed : {M : Type 0} (m : Measure M) (s : List Shape) (v : List M) (n : ℕ) (q : Path) → joins m (λ (x : Position). begins q x.path) (listed m.none s v n) ≡ inclusive m (leaves m.none s v n) q
leaves_listed m s v zero q = refl
leaves_listed m s v (suc n) q = ap (λ w. cond (begins q (context s n).path) (m.join (get_or v n m.none) w) w) (leaves_listed m s v n q)

pub included : {M : Type 0} (m : Measure M) (s : List Shape) (v col col' : List M) (n : ℕ) → Filled m s v col col' n → Included m s v col col' n
included m s v col col' n x = record { filled = λ k h. x.filled k h ∙ leaves_listed m s v n (context s k).path; rest = x.rest }
