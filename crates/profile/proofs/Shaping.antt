-- The shape of a tree's rows is a shape. Assumes nothing.
use Rattle.std.proofs.Common.{◌≡◌, ℕ, zero, suc, ◌<◌, ◌≤◌, List, length, get_or, take, sym, ap, ◌∙◌, ⊎_elim, add-one, arith, length-take, get_or-take}
use Rattle.std.proofs.lemmas.Bool.{cases_eq, cond-true, cond-false, eq-eqb, ne_eqb}
use Rattle.rows.specs.declared.shape.ShapeRow.{ShapeRow}
use Rattle.rows.specs.declared.row.Shape.{Shape}
use Rattle.rows.specs.Shapes.{blank}
use Rattle.rows.specs.ShapeColumn.{no_row, function_at, parent_at, steps_up, IsRooted, IsShape}
use Rattle.rows.specs.Columns.{Shaped}
use Rattle.rows.specs.Sound.{Table}
use Rattle.rows.proofs.Sounds.{some}
use Rattle.rows.proofs.Flats.{first_root}
use Rattle.profile.proofs.Telling.{only_root}

module _ (s : List Shape) (n : ℕ) (t : Table s n 0) (col : List ShapeRow) (long : length col ≡ n) (fn : (k : ℕ) → k < n → function_at col k ≡ (get_or s k blank).function) (pa : (k : ℕ) → k < n → parent_at col k ≡ (get_or s k blank).parent) where
  named : (k : ℕ) → 0 < k → k < n → 0 < (get_or s k blank).function
  named k p h = ⊎_elim
      (λ (z : (get_or s k blank).function ≡ 0). absurd (omega (arith, only_root s n t k h z)))
      (λ (z : (get_or s k blank).function ≡ 0 → ⊥). omega arith)
      (cases_eq (get_or s k blank).function 0)

  rooted : n ≤ 65535 → IsRooted col
  rooted few = record {
    some = omega (arith, some s n 0 t);
    most = omega arith;
    root_function = fn 0 (some s n 0 t) ∙ first_root s n 0 t;
    root_parent = pa 0 (some s n 0 t) ∙ ((t.good 0 (some s n 0 t)).root (first_root s n 0 t)).parent;
    called = λ i p h. omega (arith, fn i (omega arith), named i p (omega arith));
    above = λ i p h. omega (arith, pa i (omega arith), ((t.good i (omega arith)).child (named i p (omega arith))).parent);
  }

  -- as many steps as the row's number suffice
  deep : (most i : ℕ) → i ≤ most → i < n → steps_up most col i ≡ (get_or s i blank).depth
  deep zero i l h =
      let e : i ≡ 0 = omega arith in
      sym (ap (λ k. (get_or s k blank).depth) e ∙ ((t.good 0 (some s n 0 t)).root (first_root s n 0 t)).depth)
  deep (suc most) i l h = ⊎_elim
      (λ (e : i ≡ 0). cond-true _ _ _ (eq-eqb i 0 e) ∙ sym (ap (λ k. (get_or s k blank).depth) e ∙ ((t.good 0 (some s n 0 t)).root (first_root s n 0 t)).depth))
      (λ (e : i ≡ 0 → ⊥).
      let q = (t.good i h).child (named i (omega arith) h) in
      let up : parent_at col i ≡ (get_or s i blank).parent = pa i h in
      cond-false _ _ _ (ne_eqb i 0 e) ∙ ap suc (ap (steps_up most col) up ∙ deep most (get_or s i blank).parent (omega (arith, q.parent)) (omega (arith, q.parent))) ∙ sym (q.depth ∙ add-one _))
      (cases_eq i 0)

  pub shape_of : n ≤ 65535 → IsShape col
  shape_of few = record {
    rooted = rooted few;
    shallow = λ i h. omega (arith, deep i i (omega arith) (omega arith), (t.good i (omega arith)).depth);
    apart = λ i j l h p f.
        let nj = named j (omega arith) (omega arith) in
        let ff : (get_or s j blank).function ≡ (get_or s i blank).function = sym (fn j (omega arith)) ∙ sym f ∙ fn i (omega arith) in
        let pp : (get_or s j blank).parent ≡ (get_or s i blank).parent = sym (pa j (omega arith)) ∙ sym p ∙ pa i (omega arith) in
        let e : j ≡ i = t.apart j i (omega arith) (omega arith) nj ff pp in
        omega arith;
  }

-- the column that was filled
pub shaped_is : (s : List Shape) (n : ℕ) → Table s n 0 → (col col' : List ShapeRow) → n ≤ length col → n ≤ 65535 → Shaped s col col' n → IsShape (take n col')
shaped_is s n t col col' long few x =
    let l : n ≤ length col' = omega (arith, x.long) in
    shape_of s n t (take n col') (length-take n col' ∙ omega arith)
    (λ k h. ap (λ (r : ShapeRow). r.function) (get_or-take n col' k no_row h) ∙ x.function k h)
    (λ k h. ap (λ (r : ShapeRow). r.parent) (get_or-take n col' k no_row h) ∙ x.parent k h)
    few
