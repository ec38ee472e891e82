-- How what a table means changes with its rows. Assumes nothing.
use Rattle.std.proofs.Common.{◌≡◌, ℕ, zero, suc, ◌<◌, ◌≤◌, Bool, true, false, cond, ◌||◌, List, [], ◌∷◌, length, get_or, set, sym, refl, ap, ◌∙◌, subst, ap₂, ⊎_elim, add-one, arith, get_or-set_other, get_or-set_same}
use Rattle.std.proofs.lemmas.Bool.{cases_eq, cases_lt, both_ways, or_cases, or_left, or_right}
use Rattle.model.specs.Positions.{Path, Position, at, same}
use Rattle.metrics.specs.Measures.{Measure, Laws}
use Rattle.metrics.specs.Joins.{joins}
use Rattle.model.specs.Summaries.{any_of, rooted}
use Rattle.rows.specs.Shapes.{Shape, blank}
use Rattle.rows.specs.Sound.{roots, Table}
use Rattle.rows.specs.Reading.{trail, context, listed}
use Rattle.model.proofs.Moves.{same_refl, same_true}
use Rattle.model.proofs.Rows.{alike, rooted_parts}
use Rattle.rows.proofs.Sounds.{Alike, up_one, top_one, root_of, roots_rise}

-- ---- paths and contexts
pub trail_long : (s : List Shape) (d k : ℕ) → length (trail s d k) ≡ d
trail_long s zero k = refl
trail_long s (suc d) k = ap suc (trail_long s d (get_or s k blank).parent)

-- a row's depth is its path's length
pub depth_is : (s : List Shape) (k : ℕ) → length (context s k).path ≡ (get_or s k blank).depth
depth_is s k = trail_long s (get_or s k blank).depth k

module _ (s : List Shape) (n top : ℕ) (t : Table s n top) where
  pub context_child : (k : ℕ) → k < n → 0 < (get_or s k blank).function → context s k ≡ at (context s (get_or s k blank).parent).level ((get_or s k blank).function ∷ (context s (get_or s k blank).parent).path)
  context_child k h f =
      let q = (t.good k h).child f in
      ap₂ at q.level (ap (λ d. trail s d k) (q.depth ∙ add-one _))

  pub context_root : (k : ℕ) → k < n → (get_or s k blank).function ≡ 0 → context s k ≡ at (roots s k) []
  context_root k h z =
      let q = (t.good k h).root z in
      ap₂ at q.level (ap (λ d. trail s d k) q.depth)

  -- no context twice
  apart_by : (d j k : ℕ) → j < n → k < n → (get_or s j blank).depth ≡ d → (get_or s k blank).depth ≡ d → (get_or s j blank).level ≡ (get_or s k blank).level → trail s d j ≡ trail s d k → j ≡ k
  apart_by zero j k hj hk dj dk l p =
      let fj = top_one s n top t j hj dj in
      let fk = top_one s n top t k hk dk in
      let lj = ((t.good j hj).root fj).level in
      let lk = ((t.good k hk).root fk).level in
      ⊎_elim (λ (e : j ≡ k). e)
      (λ (ne : j ≡ k → ⊥). ⊎_elim
      (λ (b : j < k). absurd (omega (arith, roots_rise s k j b fj)))
      (λ (b : k ≤ j). let b' : k < j = omega arith in absurd (omega (arith, roots_rise s j k b' fk)))
      (cases_lt j k))
      (cases_eq j k)
  apart_by (suc d) j k hj hk dj dk l p =
      let qj = up_one s n top t j hj (omega arith) in
      let qk = up_one s n top t k hk (omega arith) in
      let f : (get_or s j blank).function ≡ (get_or s k blank).function = cc in
      let r : trail s d (get_or s j blank).parent ≡ trail s d (get_or s k blank).parent = cc in
      let named : 0 < (get_or s j blank).function = ⊎_elim
      (λ (z : (get_or s j blank).function ≡ 0). absurd (omega (arith, ((t.good j hj).root z).depth)))
      (λ (z : (get_or s j blank).function ≡ 0 → ⊥). omega arith)
      (cases_eq (get_or s j blank).function 0) in
      t.apart j k hj hk named f
      (apart_by d (get_or s j blank).parent (get_or s k blank).parent (omega (arith, qj.parent)) (omega (arith, qk.parent)) (omega (arith, qj.depth)) (omega (arith, qk.depth)) (sym qj.level ∙ l ∙ qk.level) r)

  pub contexts_apart : (j k : ℕ) → j < n → k < n → context s j ≡ context s k → j ≡ k
  contexts_apart j k hj hk e =
      let p = ap (λ (x : Position). x.path) e in
      let d : (get_or s j blank).depth ≡ (get_or s k blank).depth = sym (depth_is s j) ∙ ap length p ∙ depth_is s k in
      apart_by (get_or s k blank).depth j k hj hk d refl (ap (λ (x : Position). x.level) e) (ap (λ x. trail s x j) (sym d) ∙ p)

  -- the first rows decide
  trail_alike : (s' : List Shape) → Alike s s' n → (d k : ℕ) → k < n → (get_or s k blank).depth ≡ d → trail s' d k ≡ trail s d k
  trail_alike s' a zero k h e = refl
  trail_alike s' a (suc d) k h e =
      let q = up_one s n top t k h (omega arith) in
      let o = a k h in
      ap₂ {C = Path} (λ x y. x ∷ y) (ap (λ (x : Shape). x.function) o)
      (ap (λ (x : Shape). trail s' d x.parent) o ∙ trail_alike s' a d (get_or s k blank).parent (omega (arith, q.parent)) (omega (arith, q.depth)))

  pub context_alike : (s' : List Shape) → Alike s s' n → (k : ℕ) → k < n → context s' k ≡ context s k
  context_alike s' a k h =
      let o = a k h in
      ap₂ at (ap (λ (x : Shape). x.level) o) (ap (λ (x : Shape). trail s' x.depth k) o ∙ trail_alike s' a (get_or s k blank).depth k h refl)

-- ---- the rows as a list
pub listed_same : {M : Type 0} (none : M) (s s' : List Shape) (v v' : List M) (n : ℕ) → ((k : ℕ) → k < n → context s' k ≡ context s k) → ((k : ℕ) → k < n → get_or v' k none ≡ get_or v k none) → listed none s' v' n ≡ listed none s v n
listed_same none s s' v v' zero c w = refl
listed_same none s s' v v' (suc n) c w = ap₂ {C = List (Position × _)} (λ x r. x ∷ r) (ap₂ (λ x y. (x, y)) (c n (omega arith)) (w n (omega arith))) (listed_same none s s' v v' n (λ k h. c k (omega arith)) (λ k h. w k (omega arith)))

module _ {M : Type 0} (none : M) (s : List Shape) (v : List M) where
  pub any_at : (n k : ℕ) → k < n → any_of (same (context s k)) (listed none s v n) ≡ true
  any_at zero k h = absurd (omega arith)
  any_at (suc n) k h = ⊎_elim
      (λ (e : k ≡ n). or_left _ _ (subst (λ j. same (context s k) (context s j) ≡ true) e (same_refl (context s k))))
      (λ (e : k ≡ n → ⊥). or_right (same (context s k) (context s n)) _ (any_at n k (omega arith)))
      (cases_eq k n)

  pub any_is : (n : ℕ) (x : Position) → any_of (same x) (listed none s v n) ≡ true → (k : ℕ) × (k < n) × (x ≡ context s k)
  any_is zero x e = absurd (both_ways false refl e)
  any_is (suc n) x e = ⊎_elim
      (λ h. (n, omega arith, same_true x (context s n) h))
      (λ h. let r = any_is n x h in (r.0, omega (arith, r.1), r.2))
      (or_cases (same x (context s n)) (any_of (same x) (listed none s v n)) e)

  -- a context that has a row
  pub any_known : (n k : ℕ) → k < n → (x : Position) → any_of (same x) (listed none s v n) ≡ (any_of (same x) (listed none s v n) || same x (context s k))
  any_known n k h x = alike _ _ (or_left _ _)
      (λ e. ⊎_elim (λ y. y) (λ y. subst (λ z. any_of (same z) (listed none s v n) ≡ true) (sym (same_true x (context s k) y)) (any_at n k h)) (or_cases _ _ e))

-- each level up to the last has its root row
pub any_rooted : {M : Type 0} (none : M) (s : List Shape) (v : List M) (n top : ℕ) → Table s n top → (x : Position) → any_of (same x) (listed none s v n) ≡ (any_of (same x) (listed none s v n) || rooted top x)
any_rooted none s v n top t x = alike _ _ (or_left _ _)
    (λ e. ⊎_elim (λ y. y)
    (λ y. let both = rooted_parts top x y in
    let low = both.1 in
    let r = root_of s n x.level (omega (arith, t.levels)) in
    let is : x ≡ context s r.0 = ap₂ at {x = x.level} {y = roots s r.0} (sym r.3) both.0 ∙ sym (context_root s n top t r.0 r.1 r.2) in
    subst (λ z. any_of (same z) (listed none s v n) ≡ true) (sym is) (any_at none s v n r.0 r.1))
    (or_cases _ _ e))

-- ---- values
module _ {M : Type 0} {m : Measure M} (laws : Laws m) where
  -- a row of the unit more
  pub joins_unit : (s : List Shape) (v : List M) (n : ℕ) (x : Position) → get_or v n m.none ≡ m.none → joins m (same x) (listed m.none s v (suc n)) ≡ joins m (same x) (listed m.none s v n)
  joins_unit s v n x e = go (same x (context s n))
    where
      go : (b : Bool) → cond b (m.join (get_or v n m.none) (joins m (same x) (listed m.none s v n))) (joins m (same x) (listed m.none s v n)) ≡ joins m (same x) (listed m.none s v n)
      go true = ap (λ w. m.join w (joins m (same x) (listed m.none s v n))) e ∙ laws.unit (joins m (same x) (listed m.none s v n))
      go false = refl

  -- a value booked at a row
  pub joins_book : (s : List Shape) (v : List M) (n c : ℕ) (w : M) (x : Position) → c < n → c < length v → joins m (same x) (listed m.none s (set v c (m.join (get_or v c m.none) w)) n) ≡ cond (same x (context s c)) (m.join (joins m (same x) (listed m.none s v n)) w) (joins m (same x) (listed m.none s v n))
  joins_book s v zero c w x h l = absurd (omega arith)
  joins_book s v (suc n) c w x h l = ⊎_elim
      (λ (e : c ≡ n).
      let v' = set v c (m.join (get_or v c m.none) w) in
      let head : get_or v' n m.none ≡ m.join (get_or v n m.none) w = subst (λ j. get_or v' j m.none ≡ m.join (get_or v j m.none) w) e (get_or-set_same v c _ m.none l) in
      let rest : joins m (same x) (listed m.none s v' n) ≡ joins m (same x) (listed m.none s v n) = ap (joins m (same x)) (listed_same m.none s s v v' n (λ k h. refl) (λ k h. get_or-set_other v c k _ m.none (omega arith))) in
      ap₂ (λ y z. cond (same x (context s n)) (m.join y z) z) head rest
      ∙ here (same x (context s n)) (get_or v n m.none) (joins m (same x) (listed m.none s v n))
      ∙ ap (λ j. cond (same x (context s j)) (m.join (joins m (same x) (listed m.none s v (suc n))) w) (joins m (same x) (listed m.none s v (suc n)))) (sym e))
      (λ (e : c ≡ n → ⊥).
      let v' = set v c (m.join (get_or v c m.none) w) in
      ap₂ (λ y z. cond (same x (context s n)) (m.join y z) z) (get_or-set_other v c n _ m.none (λ z. e (sym z))) (joins_book s v n c w x (omega arith) l)
      ∙ there (same x (context s n)) (same x (context s c)) (get_or v n m.none) (joins m (same x) (listed m.none s v n)))
      (cases_eq c n)
    where
      here : (b : Bool) (y z : M) → cond b (m.join (m.join y w) z) z ≡ cond b (m.join (cond b (m.join y z) z) w) (cond b (m.join y z) z)
      here true y z = laws.assoc y w z ∙ ap (m.join y) (laws.comm w z) ∙ sym (laws.assoc y z w)
      here false y z = refl

      there : (b c : Bool) (y z : M) → cond b (m.join y (cond c (m.join z w) z)) (cond c (m.join z w) z) ≡ cond c (m.join (cond b (m.join y z) z) w) (cond b (m.join y z) z)
      there true true y z = sym (laws.assoc y z w)
      there true false y z = refl
      there false true y z = refl
      there false false y z = refl
