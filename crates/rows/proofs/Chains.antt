-- What the index of children gives, and how it grows. Assumes nothing.
use Rattle.std.proofs.Common.{◌≡◌, ℕ, zero, suc, ◌+◌, ◌<◌, ◌≤◌, cond, eqb, List, length, get_or, set, sym, refl, ap, ◌∙◌, subst, ap₂, ⊎_elim, add-one, arith, get_or-set_other, get_or-set_same}
use mathlib.Core.Logic.{∥∥₁_elim}
use denote.Struct.Props.{props}
use Rattle.std.proofs.lemmas.Bool.{cases_eq, cond-true, cond-false, eq-eqb, ne_eqb}
use Rattle.rows.specs.Shapes.{Shape, blank}
use Rattle.rows.specs.Index.{slot, place_of, newest, Indexed}

-- ---- the newest row at a place
pub newest_here : (s : List Shape) (h n : ℕ) → place_of s n ≡ h → newest s h (suc n) ≡ suc n
newest_here s h n e = cond-true _ _ _ (eq-eqb (place_of s n) h e)

pub newest_other : (s : List Shape) (h n : ℕ) → (place_of s n ≡ h → ⊥) → newest s h (suc n) ≡ newest s h n
newest_other s h n ne = cond-false _ _ _ (ne_eqb (place_of s n) h ne)

pub newest_low : (s : List Shape) (h n : ℕ) → newest s h n ≤ n
newest_low s h zero = omega arith
newest_low s h (suc n) = let l = newest_low s h n in ⊎_elim
    (λ (e : place_of s n ≡ h). omega (arith, newest_here s h n e))
    (λ (e : place_of s n ≡ h → ⊥). omega (arith, newest_other s h n e))
    (cases_eq (place_of s n) h)

-- a row of that place comes no later
pub newest_bound : (s : List Shape) (h n j : ℕ) → j < n → place_of s j ≡ h → j < newest s h n
newest_bound s h zero j l e = absurd (omega arith)
newest_bound s h (suc n) j l e = ⊎_elim
    (λ (z : place_of s n ≡ h). omega (arith, newest_here s h n z))
    (λ (z : place_of s n ≡ h → ⊥).
    let ne : j < n = ⊎_elim (λ (q : j ≡ n). absurd (z (sym (ap (place_of s) q) ∙ e))) (λ (q : j ≡ n → ⊥). omega arith) (cases_eq j n) in
    omega (arith, newest_other s h n z, newest_bound s h n j ne e))
    (cases_eq (place_of s n) h)

-- and is of that place
pub newest_is : (s : List Shape) (h n k : ℕ) → newest s h n ≡ suc k → place_of s k ≡ h
newest_is s h zero k e = absurd (omega arith)
newest_is s h (suc n) k e = ⊎_elim
    (λ (z : place_of s n ≡ h). let q : n ≡ k = omega (arith, newest_here s h n z) in sym (ap (place_of s) q) ∙ z)
    (λ (z : place_of s n ≡ h → ⊥). newest_is s h n k (sym (newest_other s h n z) ∙ e))
    (cases_eq (place_of s n) h)

-- ---- the first n rows decide
module _ (s s' : List Shape) (n : ℕ) (long : length s' ≡ length s) (a : (k : ℕ) → k < n → get_or s' k blank ≡ get_or s k blank) where
  place_alike : (k : ℕ) → k < n → place_of s' k ≡ place_of s k
  place_alike k l = rw (long, a k l)

  newest_alike : (h m : ℕ) → m ≤ n → newest s' h m ≡ newest s h m
  newest_alike h zero l = refl
  newest_alike h (suc m) l = ap₂ (λ p r. cond (eqb p h) (suc m) r) (place_alike m (omega arith)) (newest_alike h m (omega arith))

  pub indexed_alike : (heads links : List ℕ) → Indexed s heads links n → Indexed s' heads links n
  indexed_alike heads links x = record {
    first = λ h l. x.first h (omega arith) ∙ sym (newest_alike h n (omega arith));
    after = λ k l. x.after k l ∙ ap (λ p. newest s p k) (sym (place_alike k l)) ∙ sym (newest_alike (place_of s' k) k (omega arith));
  }

-- ---- one row more
module _ (s : List Shape) (heads links : List ℕ) (n : ℕ) (room : n < length s) (lh : length heads ≡ length s) (ll : length links ≡ length s) (x : Indexed s heads links n) where
  pub indexed_more : (h : ℕ) → h ≡ place_of s n → h < length s → Indexed s (set heads h (suc n)) (set links n (get_or heads h 0)) (suc n)
  indexed_more h e low = record {
    first = λ g l. ⊎_elim
        (λ (z : g ≡ h). ap (λ y. get_or (set heads h (suc n)) y 0) z ∙ get_or-set_same heads h (suc n) 0 (omega arith) ∙ sym (newest_here s g n (sym e ∙ sym z)))
        (λ (z : g ≡ h → ⊥). get_or-set_other heads h g (suc n) 0 z ∙ x.first g l ∙ sym (newest_other s g n (λ (q : place_of s n ≡ g). z (sym q ∙ sym e))))
        (cases_eq g h);
    after = λ k l. ⊎_elim
        (λ (z : k ≡ n). ap (λ y. get_or (set links n (get_or heads h 0)) y 0) z ∙ get_or-set_same links n (get_or heads h 0) 0 (omega arith) ∙ x.first h low ∙ ap₂ (newest s) (e ∙ sym (ap (place_of s) z)) (sym z))
        (λ (z : k ≡ n → ⊥). get_or-set_other links n k (get_or heads h 0) 0 z ∙ x.after k (omega arith))
        (cases_eq k n);
  }

-- no row is in a chain where each is empty
pub indexed_none : (s : List Shape) (heads links : List ℕ) → ((h : ℕ) → h < length s → get_or heads h 0 ≡ 0) → Indexed s heads links 0
indexed_none s heads links z = record { first = z; after = λ k l. absurd (omega arith) }

-- ---- one proof at most
indexed_prop : (s : List Shape) (heads links : List ℕ) (n : ℕ) → IsProp (Indexed s heads links n)
indexed_prop s heads links n p q =
    let a : IsProp ((h : ℕ) → h < length s → get_or heads h 0 ≡ newest s h n) = hlevel props in
    let b : IsProp ((k : ℕ) → k < n → get_or links k 0 ≡ newest s (place_of s k) k) = hlevel props in
    λ i. record { first = a p.first q.first i; after = b p.after q.after i }

-- the ghost field, as the facts that it holds
pub whole_index : {s : List Shape} {heads links : List ℕ} {n : ℕ} → ∥ Indexed s heads links n ∥₁ → Indexed s heads links n
whole_index {s} {heads} {links} {n} h = ∥∥₁_elim h (indexed_prop s heads links n) (λ x. x)

-- what `chain` leaves
pub indexed_linked : (s s' : List Shape) (heads heads' links links' : List ℕ) (n h : ℕ) → n < length s → length heads ≡ length s → length links ≡ length s → Indexed s heads links n
    → h ≡ place_of s n → h < length s → s' ≡ s → heads' ≡ set heads h (n + 1) → links' ≡ set links n (get_or heads h 0) → Indexed s' heads' links' (n + 1)
indexed_linked s s' heads heads' links links' n h room lh ll x e low es eh el =
    rw (es, eh, el, add-one n) (indexed_more s heads links n room lh ll x h e low)

-- ---- the search along a chain
-- The search stands before the row after - 1, or at the end where after is 0: a row of f below up can only come from there on.
pub record Chasing (s : List Shape) (count up f after : ℕ) : Type 0 where
  pub within : after ≤ count
  pub here : (k : ℕ) → after ≡ suc k → place_of s k ≡ slot (length s) up f
  pub left : (k : ℕ) → k < count → (get_or s k blank).parent ≡ up → (get_or s k blank).function ≡ f → k < after

module _ (s : List Shape) (heads links : List ℕ) (count up f : ℕ) (x : Indexed s heads links count) where
  place_is : (k : ℕ) → (get_or s k blank).parent ≡ up → (get_or s k blank).function ≡ f → place_of s k ≡ slot (length s) up f
  place_is k p q = ap₂ (slot (length s)) p q

  pub chase_start : slot (length s) up f < length s → (after : ℕ) → after ≡ get_or heads (slot (length s) up f) 0 → Chasing s count up f after
  chase_start low after e =
      let is : after ≡ newest s (slot (length s) up f) count = e ∙ x.first (slot (length s) up f) low in
      record {
        within = omega (arith, is, newest_low s (slot (length s) up f) count);
        here = λ k z. newest_is s (slot (length s) up f) count k (sym is ∙ z);
        left = λ k l p q. omega (arith, is, newest_bound s (slot (length s) up f) count k l (place_is k p q));
      }

  pub chase_more : (after i next : ℕ) → after ≡ suc i → Chasing s count up f after → ((get_or s i blank).parent ≡ up → (get_or s i blank).function ≡ f → ⊥) → next ≡ get_or links i 0 → Chasing s count up f next
  chase_more after i next ea c miss en =
      let h = slot (length s) up f in
      let is : next ≡ newest s h i = en ∙ x.after i (omega (arith, c.within)) ∙ ap (λ p. newest s p i) (c.here i ea) in
      record {
        within = omega (arith, is, newest_low s h i, c.within);
        here = λ k z. newest_is s h i k (sym is ∙ z);
        left = λ k l p q.
            let lt = c.left k l p q in
            let ne : k < i = ⊎_elim (λ (z : k ≡ i). absurd (miss (subst (λ y. (get_or s y blank).parent ≡ up) z p) (subst (λ y. (get_or s y blank).function ≡ f) z q))) (λ (z : k ≡ i → ⊥). omega arith) (cases_eq k i) in
            omega (arith, is, newest_bound s h i k ne (place_is k p q));
      }

  pub chase_falls : (after i next : ℕ) → after ≡ suc i → Chasing s count up f after → next ≡ get_or links i 0 → next < after
  chase_falls after i next ea c en = omega (arith, en, x.after i (omega (arith, c.within)), newest_low s (place_of s i) i)

-- where shapes and chains stay, so does the index
pub indexed_moved : (s s' : List Shape) (h h' l l' : List ℕ) (n : ℕ) → s' ≡ s → h' ≡ h → l' ≡ l → ∥ Indexed s h l n ∥₁ → ∥ Indexed s' h' l' n ∥₁
indexed_moved s s' h h' l l' n es eh el x = rw (es, eh, el) x
