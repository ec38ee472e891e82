-- No two rows share parent and function where no two neighbours of the order do, and the other way round.
use Rattle.std.proofs.Common.{◌≡◌, ℕ, zero, suc, ◌+◌, ◌-◌, ◌<◌, ◌⊎◌, List, length, sym, ap, ◌∙◌, subst, inl, inr, arith}
use Rattle.std.proofs.lemmas.Bool.{cases_order, cases_lt, cases_eq}
use Rattle.rows.specs.declared.shape.ShapeRow.{ShapeRow}
use Rattle.report.specs.declared.order.Entry.{Entry}
use Rattle.rows.specs.ShapeColumn.{IsRooted, IsShape, function_at, parent_at}
use Rattle.report.specs.Order.{no_entry, entry_at, entry_of, Arranged, Alike, Upto, Twins}

-- x stands before y and does not share parent and function with it
abbrev pub Before : Entry → Entry → Type 0
Before x y = (x.parent < y.parent) ⊎ ((x.parent ≡ y.parent) × (x.function < y.function))

before_trans : (x y z : Entry) → Before x y → Before y z → Before x z
before_trans x y z h g = grind arith

not_alike : (x y : Entry) → Before x y → Alike x y → ⊥
not_alike x y h a = grind arith

strict : (x y : Entry) → Upto x y → (Alike x y → ⊥) → Before x y
strict x y h n = grind (arith, cases_lt x.function y.function)

neighbours : (s : List ShapeRow) (order : List Entry) → Arranged s order → (Twins order → ⊥) → (k : ℕ) → k + 1 < length order → Before (entry_at order k) (entry_at order (k + 1))
neighbours s order a n k h = strict (entry_at order k) (entry_at order (k + 1)) (a.rises k h) (λ e. n (k, h, e))

pub far : (s : List ShapeRow) (order : List Entry) → Arranged s order → (Twins order → ⊥) → (gap k m : ℕ) → m ≡ k + suc gap → m < length order → Before (entry_at order k) (entry_at order m)
far s order a n zero k m e h =
    let one : m ≡ k + 1 = omega arith in
    let g : k + 1 < length order = omega arith in
    subst (λ j. Before (entry_at order k) (entry_at order j)) (sym one) (neighbours s order a n k g)
far s order a n (suc gap) k m e h =
    let one : m ≡ (k + suc gap) + 1 = omega arith in
    let g : (k + suc gap) + 1 < length order = omega arith in
    let l : k + suc gap < length order = omega arith in
    subst (λ j. Before (entry_at order k) (entry_at order j)) (sym one)
    (before_trans (entry_at order k) (entry_at order (k + suc gap)) (entry_at order ((k + suc gap) + 1)) (far s order a n gap k (k + suc gap) (omega arith) l) (neighbours s order a n (k + suc gap) g))

-- two places of the order do not share parent and function
places_apart : (s : List ShapeRow) (order : List Entry) → Arranged s order → (Twins order → ⊥) → (j k : ℕ) → j < length order → k < length order → (j ≡ k → ⊥) → Alike (entry_at order j) (entry_at order k) → ⊥
places_apart s order a n j k lj lk d e = by_order (cases_order j k)
  where
    by_order : (j ≡ k) ⊎ ((j < k) ⊎ (k < j)) → ⊥
    by_order (inl q) = d q
    by_order (inr (inl l)) = not_alike (entry_at order j) (entry_at order k) (far s order a n (k - j - 1) j k (omega arith) lk) e
    by_order (inr (inr l)) = not_alike (entry_at order k) (entry_at order j) (far s order a n (j - k - 1) k j (omega arith) lj) (sym e.0, sym e.1)

pub rows_apart : (s : List ShapeRow) (order : List Entry) → IsRooted s → Arranged s order → (Twins order → ⊥) → (i j : ℕ) → i < j → j < length s → parent_at s i ≡ parent_at s j → function_at s i ≡ function_at s j → ⊥
rows_apart s order r a n i j l h p f = by_root (cases_eq i 0)
  where
    by_root : (i ≡ 0) ⊎ (i ≡ 0 → ⊥) → ⊥
    by_root (inl q) =
        let z : function_at s i ≡ 0 = ap (function_at s) q ∙ r.root_function in
        let c : 0 < function_at s j = r.called j (omega arith) h in
        omega arith
    by_root (inr q) =
        let hi = a.all i (omega arith) (omega arith) in
        let hj = a.all j (omega arith) h in
        let ei : entry_at order hi.0 ≡ entry_of s i = hi.2 no_entry in
        let ej : entry_at order hj.0 ≡ entry_of s j = hj.2 no_entry in
        places_apart s order a n hi.0 hj.0 hi.1 hj.1
        (λ e. let same : i ≡ j = sym (ap (λ x. x.row) ei) ∙ ap (λ k. (entry_at order k).row) e ∙ ap (λ x. x.row) ej in omega arith)
        (ap (λ x. x.parent) ei ∙ p ∙ sym (ap (λ x. x.parent) ej), ap (λ x. x.function) ei ∙ f ∙ sym (ap (λ x. x.function) ej))

-- rows i and j at two neighbouring places that share parent and function
pub twins_fault : (s : List ShapeRow) (order : List Entry) → Arranged s order → Twins order → IsShape s → ⊥
twins_fault s order a twins shape = by_order (cases_order (entry_at order twins.0).row (entry_at order (twins.0 + 1)).row)
  where
    first : twins.0 < length order
    first = omega (arith, twins.1)

    parents : parent_at s (entry_at order twins.0).row ≡ parent_at s (entry_at order (twins.0 + 1)).row
    parents = sym (ap (λ x. x.parent) (a.each twins.0 first)) ∙ twins.2.0 ∙ ap (λ x. x.parent) (a.each (twins.0 + 1) twins.1)

    functions : function_at s (entry_at order twins.0).row ≡ function_at s (entry_at order (twins.0 + 1)).row
    functions = sym (ap (λ x. x.function) (a.each twins.0 first)) ∙ twins.2.1 ∙ ap (λ x. x.function) (a.each (twins.0 + 1) twins.1)

    by_order : ((entry_at order twins.0).row ≡ (entry_at order (twins.0 + 1)).row) ⊎ (((entry_at order twins.0).row < (entry_at order (twins.0 + 1)).row) ⊎ ((entry_at order (twins.0 + 1)).row < (entry_at order twins.0).row)) → ⊥
    by_order (inl e) = let one : twins.0 ≡ twins.0 + 1 = a.once twins.0 (twins.0 + 1) first twins.1 e in omega arith
    by_order (inr (inl l)) = shape.apart _ _ l (a.within (twins.0 + 1) twins.1).1 parents functions
    by_order (inr (inr l)) = shape.apart _ _ l (a.within twins.0 first).1 (sym parents) (sym functions)
