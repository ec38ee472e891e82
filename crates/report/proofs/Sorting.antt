-- What the sort of the entries gives: the same entries, by parent and then by function.
use Rattle.std.proofs.Common.{◌≡◌, ℕ, ◌+◌, ◌-◌, ◌<◌, ◌≤◌, Bool, false, eqb, ◌⊎◌, List, length, get_or, Ordering, sym, refl, ap, ◌∙◌, subst, inl, inr, arith}
use Rattle.std.specs.Ordering.{is_lt, ordering_then, nat_cmp}
use Rattle.std.specs.List.{ContainsAt as Has, IsDistinct}
use Rattle.std.specs.List.Sorted.{IsPermutation, IsSortedWithin}
use Rattle.std.proofs.ByRecursion.{has_shuffled}
use Rattle.std.proofs.lemmas.Bool.{ne_eqb, eqb-false, cases_order, cases_lt}
use Rattle.std.proofs.lemmas.Bool.Decides.{nat_tests}
use Rattle.std.proofs.lemmas.List.{get_or_default}
use Rattle.std.proofs.lemmas.List.Elements.{All-from_get_or}
use Rattle.std.proofs.lemmas.List.Sorted.{length_permutation, All-permutation}
use Rattle.std.proofs.lemmas.Map.Keys.{IsDistinct-from_apart, apart_from_distinct, IsDistinct-IsPermutation}
use Rattle.rows.specs.declared.shape.ShapeRow.{ShapeRow}
use Rattle.report.specs.declared.order.Entry.{Entry}
use Rattle.report.specs.Order.{no_entry, entry_at, entry_of, Listed, Upto, Arranged}

-- ---- the order of the entries

abbrev pub key : Entry → ℕ × (ℕ × ℕ)
key x = (x.parent, (x.function, x.row))

abbrev pub compared : Entry → Entry → Ordering
compared x y = ordering_then (nat_cmp (key x).0 (key y).0) (ordering_then (nat_cmp (key x).1.0 (key y).1.0) (nat_cmp (key x).1.1 (key y).1.1))

upto_from : (x y : Entry) → is_lt (compared y x) ≡ false → Upto x y
upto_from x y h = by_parent (cases_order x.parent y.parent)
  where
    by_function : (x.parent ≡ y.parent) → (y.function < x.function) ⊎ (x.function ≤ y.function) → Upto x y
    by_function e (inr l) = inr (e, l)
    by_function e (inl l) = grind (arith, nat_tests)

    by_parent : (x.parent ≡ y.parent) ⊎ ((x.parent < y.parent) ⊎ (y.parent < x.parent)) → Upto x y
    by_parent (inl e) = by_function e (cases_lt y.function x.function)
    by_parent (inr (inl l)) = inl l
    by_parent (inr (inr l)) = grind (arith, nat_tests)

-- ---- each row once

abbrev same_row : Entry → Entry → Bool
same_row x y = eqb x.row y.row

same_row_flips : (x y : Entry) → same_row x y ≡ same_row y x
same_row_flips x y = grind (arith, nat_tests)

row_listed : (s : List ShapeRow) (xs : List Entry) → Listed s xs → (k : ℕ) (d : Entry) → k < length xs → (get_or xs k d).row ≡ k + 1
row_listed s xs l k d h = ap (λ x. x.row) (get_or_default xs k d no_entry h ∙ l.each k h)

distinct_listed : (s : List ShapeRow) (xs : List Entry) → Listed s xs → IsDistinct same_row xs
distinct_listed s xs l =
    IsDistinct-from_apart same_row xs
    (λ j k d m h. let a = row_listed s xs l j d (omega arith) in let b = row_listed s xs l k d h in ne_eqb _ _ (λ e. omega (arith, a, b)))

once : (ys : List Entry) → IsDistinct same_row ys → (j k : ℕ) → j < length ys → k < length ys → (entry_at ys j).row ≡ (entry_at ys k).row → j ≡ k
once ys apart j k lj lk e = by_order (cases_order j k)
  where
    by_order : (j ≡ k) ⊎ ((j < k) ⊎ (k < j)) → j ≡ k
    by_order (inl q) = q
    by_order (inr (inl l)) = absurd (eqb-false _ _ (apart_from_distinct same_row ys j k no_entry apart l lk) e)
    by_order (inr (inr l)) = absurd (eqb-false _ _ (apart_from_distinct same_row ys k j no_entry apart l lj) (sym e))

-- ---- the whole

abbrev Stands : List ShapeRow → Entry → Type 0
Stands s x = (x ≡ entry_of s x.row) × ((0 < x.row) × (x.row < length s))

stands_listed : (s : List ShapeRow) (xs : List Entry) → Listed s xs → (k : ℕ) → k < length xs → Stands s (entry_at xs k)
stands_listed s xs l k h = subst (Stands s) (sym (l.each k h)) (refl, (omega arith, omega (arith, l.long)))

has_listed : (s : List ShapeRow) (xs : List Entry) → Listed s xs → (i : ℕ) → 0 < i → i < length s → Has xs (entry_of s i)
has_listed s xs l i h g =
    let k : i - 1 < length xs = omega (arith, l.long) in
    let e : (i - 1) + 1 ≡ i = omega arith in
    (i - 1, k, λ d. get_or_default xs (i - 1) d no_entry k ∙ l.each (i - 1) k ∙ ap (entry_of s) e)

pub arranged : (s : List ShapeRow) (xs ys : List Entry) (m : ℕ) → Listed s xs → IsPermutation xs ys → length ys ≡ m → IsSortedWithin (λ x y. is_lt (compared x y)) ys 0 m → Arranged s ys
arranged s xs ys m l p em up =
    let all = All-permutation (Stands s) xs ys p (All-from_get_or (Stands s) xs no_entry (stands_listed s xs l)) in
    record {
      long = omega (arith, length_permutation xs ys p, l.long);
      each = λ k h. (all k no_entry h).0;
      within = λ k h. (all k no_entry h).1;
      all = λ i h g. has_shuffled xs ys (entry_of s i) p (has_listed s xs l i h g);
      once = once ys (IsDistinct-IsPermutation same_row same_row_flips xs ys p (distinct_listed s xs l));
      rises = λ k h. upto_from (entry_at ys k) (entry_at ys (k + 1)) (up k no_entry (omega arith) (omega arith));
    }
