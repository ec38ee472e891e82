-- What `Sound` gives, and how a table grows. Assumes nothing.
use Rattle.std.proofs.Common.{◌≡◌, ℕ, zero, suc, ◌+◌, ◌<◌, ◌≤◌, cond, eqb, List, length, get_or, set, sym, refl, ap, ◌∙◌, subst, ap₂, ⊎_elim, add-one, arith, length-set, get_or-set_other, get_or-set_same, below_more}
use mathlib.Core.Logic.{∥∥₁_elim}
use denote.Struct.Props.{props}
use Rattle.std.proofs.lemmas.Bool.{cases_eq, cases_lt, cond-true, cond-false, eq-eqb, ne_eqb}
use Rattle.rows.specs.Shapes.{Shape, blank, child, root}
use Rattle.rows.specs.Sound.{roots, Root, Child, Good, Table, Sound}

-- ---- one proof at most
root_prop : (s : List Shape) (k : ℕ) → IsProp (Root s k)
root_prop s k p q =
    let a : IsProp ((get_or s k blank).parent ≡ k) = hlevel props in
    let b : IsProp ((get_or s k blank).depth ≡ 0) = hlevel props in
    let d : IsProp ((get_or s k blank).level ≡ roots s k) = hlevel props in
    λ i. record { parent = a p.parent q.parent i; depth = b p.depth q.depth i; level = d p.level q.level i }

child_prop : (s : List Shape) (k : ℕ) → IsProp (Child s k)
child_prop s k p q =
    let a : IsProp ((get_or s k blank).parent < k) = hlevel props in
    let b : IsProp ((get_or s k blank).level ≡ (get_or s (get_or s k blank).parent blank).level) = hlevel props in
    let d : IsProp ((get_or s k blank).depth ≡ (get_or s (get_or s k blank).parent blank).depth + 1) = hlevel props in
    λ i. record { parent = a p.parent q.parent i; level = b p.level q.level i; depth = d p.depth q.depth i }

good_prop : (s : List Shape) (k : ℕ) → IsProp (Good s k)
good_prop s k p q =
    let b : IsProp ((get_or s k blank).depth ≤ 512) = hlevel props in
    let d : IsProp ((get_or s k blank).function ≡ 0 → Root s k) = hlevel (props, root_prop s k) in
    let e : IsProp (0 < (get_or s k blank).function → Child s k) = hlevel (props, child_prop s k) in
    λ i. record { depth = b p.depth q.depth i; root = d p.root q.root i; child = e p.child q.child i }

nat_set : (j k : ℕ) → IsProp (j ≡ k)
nat_set j k = hlevel props

pub table_prop : (s : List Shape) (count top : ℕ) → IsProp (Table s count top)
table_prop s count top p q =
    let a : IsProp (count ≤ length s) = hlevel props in
    let c : IsProp (roots s count ≡ top + 1) = hlevel props in
    let d : IsProp ((k : ℕ) → k < count → Good s k) = hlevel (props, good_prop s) in
    let e : IsProp ((j k : ℕ) → j < count → k < count → 0 < (get_or s j blank).function → (get_or s j blank).function ≡ (get_or s k blank).function → (get_or s j blank).parent ≡ (get_or s k blank).parent → j ≡ k) = (λ x y i j k a b c d e. nat_set j k (x j k a b c d e) (y j k a b c d e) i) in
    λ i. record { fits = a p.fits q.fits i; good = d p.good q.good i; apart = e p.apart q.apart i; levels = c p.levels q.levels i }

pub sound_prop : (s : List Shape) (count level current : ℕ) → IsProp (Sound s count level current)
sound_prop s count level current p q =
    let a = table_prop s count level in
    let b : IsProp (current < count) = hlevel props in
    let c : IsProp ((get_or s current blank).level ≡ level) = hlevel props in
    λ i. record { table = a p.table q.table i; opened = b p.opened q.opened i; here = c p.here q.here i }

-- the ghost field, as the facts that it holds
pub whole : {s : List Shape} {count level current : ℕ} → ∥ Sound s count level current ∥₁ → Sound s count level current
whole {s} {count} {level} {current} h = ∥∥₁_elim h (sound_prop s count level current) (λ t. t)

pub whole_table : {s : List Shape} {count top : ℕ} → ∥ Table s count top ∥₁ → Table s count top
whole_table {s} {count} {top} h = ∥∥₁_elim h (table_prop s count top) (λ t. t)

-- ---- root rows
pub roots_root : (s : List Shape) (n : ℕ) → (get_or s n blank).function ≡ 0 → roots s (suc n) ≡ roots s n + 1
roots_root s n z = cond-true _ _ _ (eq-eqb _ 0 z) ∙ sym (add-one _)

pub roots_child : (s : List Shape) (n : ℕ) → 0 < (get_or s n blank).function → roots s (suc n) ≡ roots s n
roots_child s n h = cond-false _ _ _ (ne_eqb (get_or s n blank).function 0 (λ (z : (get_or s n blank).function ≡ 0). omega arith))

pub roots_low : (s : List Shape) (n : ℕ) → roots s n ≤ n
roots_low s zero = omega arith
roots_low s (suc n) = let h = roots_low s n in ⊎_elim
    (λ (z : (get_or s n blank).function ≡ 0). omega (arith, roots_root s n z))
    (λ (z : (get_or s n blank).function ≡ 0 → ⊥). omega (arith, roots_child s n (omega arith)))
    (cases_eq (get_or s n blank).function 0)

-- the root row of each level
pub root_of : (s : List Shape) (n l : ℕ) → l < roots s n → (k : ℕ) × (k < n) × ((get_or s k blank).function ≡ 0) × (roots s k ≡ l)
root_of s zero l h = absurd (omega arith)
root_of s (suc n) l h = ⊎_elim
    (λ (below : l < roots s n). let r = root_of s n l below in (r.0, omega (arith, r.1), r.2, r.3))
    (λ (above : roots s n ≤ l). ⊎_elim
    (λ (z : (get_or s n blank).function ≡ 0). (n, omega arith, z, omega (arith, roots_root s n z)))
    (λ (z : (get_or s n blank).function ≡ 0 → ⊥). absurd (omega (arith, roots_child s n (omega arith))))
    (cases_eq (get_or s n blank).function 0))
    (cases_lt l (roots s n))

-- two root rows are not of one level
pub roots_rise : (s : List Shape) (n k : ℕ) → k < n → (get_or s k blank).function ≡ 0 → roots s k < roots s n
roots_rise s zero k h z = absurd (omega arith)
roots_rise s (suc n) k h z = ⊎_elim
    (λ (e : k ≡ n). subst (λ j. roots s j < roots s (suc n)) (sym e) (omega (arith, roots_root s n (subst (λ j. (get_or s j blank).function ≡ 0) e z))))
    (λ (ne : k ≡ n → ⊥).
    let low = roots_rise s n k (omega arith) z in
    ⊎_elim
    (λ (y : (get_or s n blank).function ≡ 0). omega (arith, roots_root s n y))
    (λ (y : (get_or s n blank).function ≡ 0 → ⊥). omega (arith, roots_child s n (omega arith)))
    (cases_eq (get_or s n blank).function 0))
    (cases_eq k n)

-- ---- the first n rows decide
abbrev pub Alike : List Shape → List Shape → ℕ → Type 0
Alike s s' n = (k : ℕ) → k < n → get_or s' k blank ≡ get_or s k blank

pub roots_alike : (s s' : List Shape) (n : ℕ) → Alike s s' n → roots s' n ≡ roots s n
roots_alike s s' zero a = refl
roots_alike s s' (suc n) a = ap₂ (λ (x : Shape) r. cond (eqb x.function 0) (suc r) r) (a n (omega arith)) (roots_alike s s' n (λ k h. a k (omega arith)))

module _ (s s' : List Shape) (n : ℕ) (a : Alike s s' n) where
  good_alike : (k : ℕ) → k < n → Good s k → Good s' k
  good_alike k h g =
      let o = a k h in
      record {
        depth = rw o g.depth;
        root = λ z. let r = g.root (rw o at z) in record { parent = rw o r.parent; depth = rw o r.depth; level = rw (o, roots_alike s s' k (λ j l. a j (omega arith))) r.level };
        child = λ z.
            let r = g.child (rw o at z) in
            let o' = a (get_or s k blank).parent (omega (arith, r.parent)) in
            record { parent = rw o r.parent; level = rw (o, o') r.level; depth = rw (o, o') r.depth };
      }

  pub table_alike : (top : ℕ) → n ≤ length s' → Table s n top → Table s' n top
  table_alike top fits t = record {
    fits = fits;
    good = λ k h. good_alike k h (t.good k h);
    apart = λ j k hj hk. rw (a j hj, a k hk) (t.apart j k hj hk);
    levels = roots_alike s s' n a ∙ t.levels;
  }

  pub sound_alike : (top cur : ℕ) → n ≤ length s' → Sound s n top cur → Sound s' n top cur
  sound_alike top cur fits o = record { table = table_alike top fits o.table; opened = o.opened; here = rw (a cur o.opened) o.here }

pub put_alike : (s : List Shape) (n : ℕ) (r : Shape) → Alike s (set s n r) n
put_alike s n r k h = get_or-set_other s n k r blank (omega arith)

-- ---- one row more
module _ (s : List Shape) (n top top' : ℕ) (t : Table s n top) (room : n < length s) where
  apart_more : ((k : ℕ) → k < n → 0 < (get_or s n blank).function → (get_or s k blank).function ≡ (get_or s n blank).function → (get_or s k blank).parent ≡ (get_or s n blank).parent → ⊥)
      → (j k : ℕ) → j < n + 1 → k < n + 1 → 0 < (get_or s j blank).function → (get_or s j blank).function ≡ (get_or s k blank).function → (get_or s j blank).parent ≡ (get_or s k blank).parent → j ≡ k
  apart_more absent j k hj hk named f p = ⊎_elim
      (λ (ej : j ≡ n). ⊎_elim
      (λ (ek : k ≡ n). ej ∙ sym ek)
      (λ (nk : k ≡ n → ⊥). absurd (absent k (omega arith) (subst (λ x. 0 < (get_or s x blank).function) ej named) (sym f ∙ ap (λ x. (get_or s x blank).function) ej) (sym p ∙ ap (λ x. (get_or s x blank).parent) ej)))
      (cases_eq k n))
      (λ (nj : j ≡ n → ⊥). ⊎_elim
      (λ (ek : k ≡ n). absurd (absent j (omega arith) (subst (λ x. 0 < x) (f ∙ ap (λ x. (get_or s x blank).function) ek) named) (f ∙ ap (λ x. (get_or s x blank).function) ek) (p ∙ ap (λ x. (get_or s x blank).parent) ek)))
      (λ (nk : k ≡ n → ⊥). t.apart j k (omega arith) (omega arith) named f p)
      (cases_eq k n))
      (cases_eq j n)

  pub table_more : Good s n
      → ((k : ℕ) → k < n → 0 < (get_or s n blank).function → (get_or s k blank).function ≡ (get_or s n blank).function → (get_or s k blank).parent ≡ (get_or s n blank).parent → ⊥)
      → roots s (suc n) ≡ top' + 1
      → Table s (n + 1) top'
  table_more g absent l = record {
    fits = omega arith;
    good = below_more _ _ t.good g;
    apart = apart_more absent;
    levels = subst (λ k. roots s k ≡ top' + 1) (sym (add-one n)) l;
  }

-- the row of a call, and of a return at the empty path
pub table_child : (s : List Shape) (n top up f : ℕ) → Table s n top → n < length s → up < n → 0 < f → (get_or s up blank).depth < 512 → ((k : ℕ) → k < n → (get_or s k blank).parent ≡ up → (get_or s k blank).function ≡ f → ⊥) → Table (set s n (child s up f)) (n + 1) top
table_child s n top up f t room below named shallow absent =
    let r = child s up f in
    let s' = set s n r in
    let a = put_alike s n r in
    let w : get_or s' n blank ≡ r = get_or-set_same s n r blank room in
    let o = a up below in
    let long : length s' ≡ length s = length-set s n r in
    table_more s' n top top (table_alike s s' n a top (omega arith) t) (omega arith)
    (record {
      depth = rw w (omega arith);
      root = λ z. absurd (let z' : f ≡ 0 = rw w at z in omega arith);
      child = λ z. record { parent = rw w below; level = rw (w, o); depth = rw (w, o) };
    })
    (λ k h z e p. absent k h (sym (ap (λ (x : Shape). x.parent) (a k h)) ∙ p ∙ ap (λ (x : Shape). x.parent) w) (sym (ap (λ (x : Shape). x.function) (a k h)) ∙ e ∙ ap (λ (x : Shape). x.function) w))
    (roots_child s' n (rw w named) ∙ roots_alike s s' n a ∙ t.levels)

pub table_root : (s : List Shape) (n top : ℕ) → Table s n top → n < length s → Table (set s n (root (top + 1) n)) (n + 1) (top + 1)
table_root s n top t room =
    let r = root (top + 1) n in
    let s' = set s n r in
    let a = put_alike s n r in
    let w : get_or s' n blank ≡ r = get_or-set_same s n r blank room in
    let long : length s' ≡ length s = length-set s n r in
    let same : roots s' n ≡ roots s n = roots_alike s s' n a in
    let fn : (get_or s' n blank).function ≡ 0 = rw w in
    table_more s' n top (top + 1) (table_alike s s' n a top (omega arith) t) (omega arith)
    (record {
      depth = rw w (omega arith);
      root = λ z. record { parent = rw w; depth = rw w; level = rw w (sym (same ∙ t.levels)) };
      child = λ z. absurd (omega arith);
    })
    (λ k h z e p. absurd (omega arith))
    (omega (arith, roots_root s' n fn, t.levels))

-- one row, the root, is a summary of no records
pub table_new : (s : List Shape) → 0 < length s → Sound (set s 0 blank) 1 0 0
table_new s h =
    let s' = set s 0 blank in
    let e : get_or s' 0 blank ≡ blank = get_or-set_same s 0 blank blank h in
    let lv : (get_or s' 0 blank).level ≡ 0 = ap (λ (x : Shape). x.level) e in
    let fn : (get_or s' 0 blank).function ≡ 0 = ap (λ (x : Shape). x.function) e in
    let pa : (get_or s' 0 blank).parent ≡ 0 = ap (λ (x : Shape). x.parent) e in
    let de : (get_or s' 0 blank).depth ≡ 0 = ap (λ (x : Shape). x.depth) e in
    record {
      table = record {
        fits = simp length-set (omega arith);
        good = λ k l. let z : 0 ≡ k = omega arith in subst (λ n. Good s' n) z (record { depth = omega arith; root = λ _. record { parent = pa; depth = de; level = lv }; child = λ x. absurd (omega arith) });
        apart = λ j k a b _ _ _. omega arith;
        levels = roots_root s' 0 fn;
      };
      opened = omega arith;
      here = lv;
    }

-- ---- what holds of each row
module _ (s : List Shape) (n top : ℕ) (t : Table s n top) where
  pub some : 0 < n
  some = omega (arith, t.levels, roots_low s n)

  pub narrow : top < n
  narrow = omega (arith, t.levels, roots_low s n)

  -- a row that is not at the top has a parent
  pub up_one : (k : ℕ) → k < n → 0 < (get_or s k blank).depth → Child s k
  up_one k h d = ⊎_elim
      (λ (z : (get_or s k blank).function ≡ 0). absurd (omega (arith, ((t.good k h).root z).depth)))
      (λ (z : (get_or s k blank).function ≡ 0 → ⊥). (t.good k h).child (omega arith))
      (cases_eq (get_or s k blank).function 0)

  pub top_one : (k : ℕ) → k < n → (get_or s k blank).depth ≡ 0 → (get_or s k blank).function ≡ 0
  top_one k h d = ⊎_elim
      (λ (z : (get_or s k blank).function ≡ 0). z)
      (λ (z : (get_or s k blank).function ≡ 0 → ⊥). absurd (omega (arith, ((t.good k h).child (omega arith)).depth)))
      (cases_eq (get_or s k blank).function 0)

  -- no row is of a level above the last: from a row to the root row above it
  pub level_low : (k : ℕ) → k < n → (get_or s k blank).level ≤ top
  level_low k h = level_by (get_or s k blank).depth k h refl
    where
      level_by : (d j : ℕ) → j < n → (get_or s j blank).depth ≡ d → (get_or s j blank).level ≤ top
      level_by zero j l e = let z = top_one j l e in omega (arith, ((t.good j l).root z).level, roots_rise s n j l z, t.levels)
      level_by (suc d) j l e = let q = up_one j l (omega arith) in omega (arith, q.level, level_by d (get_or s j blank).parent (omega (arith, q.parent)) (omega (arith, q.depth)))
