-- A row and the rows at or below its children are the rows at or below it.
use Rattle.std.proofs.Common.{◌≡◌, ℕ, zero, suc, ◌+◌, ◌<◌, ◌≤◌, Bool, true, false, cond, eqb, ◌⊎◌, List, [], ◌∷◌, length, get_or, drop, sym, refl, ap, ◌∙◌, subst, inl, inr, arith}
use Rattle.std.specs.List.{ContainsAt as Has}
use Rattle.std.proofs.lemmas.List.{get_or-drop, length-drop}
use Rattle.std.proofs.lemmas.Bool.{cond-true, cond-false, eqb-true, cases_eq, cases_Bool}
use Rattle.std.proofs.lemmas.Bool.Decides.{nat_tests}
use Rattle.rows.specs.declared.shape.ShapeRow.{ShapeRow}
use Rattle.report.specs.declared.order.Entry.{Entry}
use Rattle.rows.specs.ShapeColumn.{IsRooted, parent_at}
use Rattle.report.specs.Order.{no_entry, entry_at, Arranged}
use Rattle.report.specs.Outline.{IsChild, led_by}
use Rattle.report.specs.Size.{same, under_by, under, count, size_of, sizes_of}

-- ---- one row at or below another

up : (s : List ShapeRow) → IsRooted s → (j : ℕ) → j < length s → parent_at s j ≤ j
up s t zero h = omega (arith, t.root_parent)
up s t (suc j) h = let p : parent_at s (suc j) < suc j = t.above (suc j) (omega arith) h in omega arith

under_here : (s : List ShapeRow) (m r : ℕ) → under_by m s r r ≡ 1
under_here s zero r = grind (arith, nat_tests)
under_here s (suc m) r = grind (arith, nat_tests)

under_few : (s : List ShapeRow) (m r j : ℕ) → under_by m s r j ≤ 1
under_few s zero r j = grind (arith, nat_tests)
under_few s (suc m) r j = grind (arith, nat_tests, under_few s m r (parent_at s j))

under_above : (s : List ShapeRow) → IsRooted s → (m r j : ℕ) → j < length s → j < r → under_by m s r j ≡ 0
under_above s t zero r j h l = grind (arith, nat_tests)
under_above s t (suc m) r j h l = let p = up s t j h in grind (arith, nat_tests, under_above s t m r (parent_at s j))

under_root : (s : List ShapeRow) → IsRooted s → (m r : ℕ) → under_by m s r 0 ≡ same 0 r
under_root s t zero r = refl
under_root s t (suc m) r = grind (arith, nat_tests, t.root_parent, under_root s t m r)

under_free : (s : List ShapeRow) → IsRooted s → (m n r j : ℕ) → j ≤ m → j ≤ n → j < length s → under_by m s r j ≡ under_by n s r j
under_free s t m n r zero h k l = under_root s t m r ∙ sym (under_root s t n r)
under_free s t zero n r (suc j) h k l = absurd (omega arith)
under_free s t (suc m) zero r (suc j) h k l = absurd (omega arith)
under_free s t (suc m) (suc n) r (suc j) h k l =
    let p : parent_at s (suc j) < suc j = t.above (suc j) (omega arith) l in
    ap (λ x. cond (eqb (suc j) r) 1 x) (under_free s t m n r (parent_at s (suc j)) (omega arith) (omega arith) (omega arith))

-- a row that is not r itself stands below r where its parent does
under_step : (s : List ShapeRow) → IsRooted s → (r j : ℕ) → 0 < j → j < length s → (j ≡ r → ⊥) → under s r j ≡ under s r (parent_at s j)
under_step s t r zero h l n = absurd (omega arith)
under_step s t r (suc j) h l n =
    let p = t.above (suc j) h l in
    let e = under_free s t j (parent_at s (suc j)) r (parent_at s (suc j)) (omega arith) (omega arith) (omega arith) in
    grind (arith, nat_tests)

-- every row stands below row 0
under_all : (s : List ShapeRow) → IsRooted s → (m j : ℕ) → j ≤ m → j < length s → under_by m s 0 j ≡ 1
under_all s t m zero b h = under_here s m 0
under_all s t zero (suc j) b h = absurd (omega arith)
under_all s t (suc m) (suc j) b h =
    let p = t.above (suc j) (omega arith) h in
    let u = under_all s t m (parent_at s (suc j)) (omega arith) (omega arith) in
    grind (arith, nat_tests)

-- ---- one row at or below the children that lead the entries

abbrev hits : List ShapeRow → ℕ → List Entry → ℕ → ℕ
hits s r [] j = 0
hits s r (e ∷ es) j = cond (eqb (parent_at s e.row) r) (under s e.row j + hits s r es j) 0

abbrev Valid : List ShapeRow → List Entry → Type 0
Valid s es = (k : ℕ) → k < length es → (0 < (entry_at es k).row) × ((entry_at es k).row < length s)

abbrev Once : List Entry → Type 0
Once es = (j k : ℕ) → j < length es → k < length es → (entry_at es j).row ≡ (entry_at es k).row → j ≡ k

valid_rest : (s : List ShapeRow) (e : Entry) (es : List Entry) → Valid s (e ∷ es) → Valid s es
valid_rest s e es v k h = v (suc k) (omega arith)

once_rest : (e : Entry) (es : List Entry) → Once (e ∷ es) → Once es
once_rest e es o j k lj lk q = let z : suc j ≡ suc k = o (suc j) (suc k) (omega arith) (omega arith) q in omega arith

-- a child's number is above its parent's
child_above : (s : List ShapeRow) → IsRooted s → (e : Entry) (es : List Entry) (r : ℕ) → Valid s (e ∷ es) → eqb (parent_at s e.row) r ≡ true → r < e.row
child_above s t e es r v q =
    let w = v 0 (omega arith) in
    let p : parent_at s e.row < e.row = t.above e.row w.0 w.1 in
    let z : parent_at s e.row ≡ r = eqb-true (parent_at s e.row) r q in
    omega arith

hits_above : (s : List ShapeRow) → IsRooted s → (r j : ℕ) (es : List Entry) → Valid s es → j < length s → j ≤ r → hits s r es j ≡ 0
hits_above s t r j [] v h l = refl
hits_above s t r j (e ∷ es) v h l =
    grind (arith, nat_tests, child_above s t e es r v, under_above s t j e.row j h, hits_above s t r j es (valid_rest s e es v) h l)

-- a child of r that is none of the entries
hits_absent : (s : List ShapeRow) → IsRooted s → (r j : ℕ) (es : List Entry) → Valid s es → 0 < j → j < length s → parent_at s j ≡ r → ((k : ℕ) → k < length es → (entry_at es k).row ≡ j → ⊥) → hits s r es j ≡ 0
hits_absent s t r j [] v g h p n = refl
hits_absent s t r j (e ∷ es) v g h p n =
    let b = t.above j g h in
    let other : j ≡ e.row → ⊥ = λ z. n 0 (omega arith) (sym z) in
    let rest = hits_absent s t r j es (valid_rest s e es v) g h p (λ k l. n (suc k) (omega arith)) in
    grind (arith, nat_tests, child_above s t e es r v, under_step s t e.row j g h other, under_above s t (parent_at s j) e.row (parent_at s j))

-- a child of r is one of the entries at most
hits_child : (s : List ShapeRow) → IsRooted s → (r j : ℕ) (es : List Entry) → Valid s es → Once es → 0 < j → j < length s → parent_at s j ≡ r → hits s r es j ≤ 1
hits_child s t r j [] v o g h p = omega arith
hits_child s t r j (e ∷ es) v o g h p =
    let b = t.above j g h in
    let few = under_few s j e.row j in
    let rest = hits_child s t r j es (valid_rest s e es v) (once_rest e es o) g h p in
    let absent : j ≡ e.row → hits s r es j ≡ 0 = λ z. hits_absent s t r j es (valid_rest s e es v) g h p (λ k l y. let x : suc k ≡ 0 = o (suc k) 0 (omega arith) (omega arith) (y ∙ z) in omega arith) in
    grind (arith, nat_tests, child_above s t e es r v, under_step s t e.row j g h, under_above s t (parent_at s j) e.row (parent_at s j), cases_eq j e.row)

-- and where it is one, that counts
hits_has : (s : List ShapeRow) (r j : ℕ) (es : List Entry) → Has (led_by s r es) j → 1 ≤ hits s r es j
hits_has s r j [] h = absurd (omega (arith, h.1))
hits_has s r j (e ∷ es) h = by_test (λ g. hits_has s r j es g) (cases_Bool (eqb (parent_at s e.row) r))
  where
    at_place : (Has (led_by s r es) j → 1 ≤ hits s r es j) → (k : ℕ) → k < length (e.row ∷ led_by s r es) → ((d : ℕ) → get_or (e.row ∷ led_by s r es) k d ≡ j) → 1 ≤ under s e.row j + hits s r es j
    at_place i zero l x = let u : under s e.row j ≡ 1 = subst (λ y. under_by j s y j ≡ 1) (sym (x 0)) (under_here s j j) in omega arith
    at_place i (suc k) l x = let g : 1 ≤ hits s r es j = i (k, omega arith, x) in omega arith

    by_test : (Has (led_by s r es) j → 1 ≤ hits s r es j) → (eqb (parent_at s e.row) r ≡ true) ⊎ (eqb (parent_at s e.row) r ≡ false) → 1 ≤ hits s r (e ∷ es) j
    by_test i (inl q) =
        let g : Has (e.row ∷ led_by s r es) j = subst (λ l. Has l j) (cond-true (eqb (parent_at s e.row) r) (e.row ∷ led_by s r es) [] q) h in
        subst (λ n. 1 ≤ n) (sym (cond-true (eqb (parent_at s e.row) r) (under s e.row j + hits s r es j) 0 q)) (at_place i g.0 g.1 g.2)
    by_test i (inr q) =
        let g : Has [] j = subst (λ l. Has l j) (cond-false (eqb (parent_at s e.row) r) (e.row ∷ led_by s r es) [] q) h in
        absurd (omega (arith, g.1))

-- another row is below the children of r where its parent is
hits_step : (s : List ShapeRow) → IsRooted s → (r j : ℕ) (es : List Entry) → 0 < j → j < length s → (parent_at s j ≡ r → ⊥) → hits s r es j ≡ hits s r es (parent_at s j)
hits_step s t r j [] g h n = refl
hits_step s t r j (e ∷ es) g h n =
    let rest = hits_step s t r j es g h n in
    let other : parent_at s e.row ≡ r → j ≡ e.row → ⊥ = λ q z. n (ap (parent_at s) z ∙ q) in
    grind (arith, nat_tests, under_step s t e.row j g h)

same_no : (j r : ℕ) → (j ≡ r → ⊥) → same j r ≡ 0
same_no j r n = grind (arith, nat_tests)

same_yes : (j r : ℕ) → j ≡ r → same j r ≡ 1
same_yes j r e = grind (arith, nat_tests)

-- all children of r are among those that lead the entries
abbrev Full : List ShapeRow → ℕ → List Entry → Type 0
Full s r es = (i : ℕ) → IsChild s r i → Has (led_by s r es) i

-- where it holds of the rows above row j, it holds of row j
hits_are_at : (s : List ShapeRow) → IsRooted s → (r : ℕ) (es : List Entry) → Valid s es → Once es → Full s r es → (j : ℕ) → j < length s → ((i : ℕ) → i < j → i < length s → hits s r es i + same i r ≡ under s r i) → hits s r es j + same j r ≡ under s r j
hits_are_at s t r es v o f j h ih = by_row (cases_eq j r)
  where
    here : j ≡ r → hits s r es j + same j r ≡ under s r j
    here e =
        let a : hits s r es j ≡ 0 = hits_above s t r j es v h (omega arith) in
        let u : under s r j ≡ 1 = subst (λ x. under_by j s x j ≡ 1) e (under_here s j j) in
        let c : same j r ≡ 1 = same_yes j r e in
        omega arith

    top : (j ≡ r → ⊥) → j ≡ 0 → hits s r es j + same j r ≡ under s r j
    top n z =
        let l : j < r = omega arith in
        let a : hits s r es j ≡ 0 = hits_above s t r j es v h (omega arith) in
        let u : under s r j ≡ 0 = under_above s t j r j h l in
        let c : same j r ≡ 0 = same_no j r n in
        omega arith

    below : (j ≡ r → ⊥) → (j ≡ 0 → ⊥) → (parent_at s j ≡ r) ⊎ (parent_at s j ≡ r → ⊥) → hits s r es j + same j r ≡ under s r j
    below n z (inl p) =
        let g : 0 < j = omega arith in
        let a : hits s r es j ≤ 1 = hits_child s t r j es v o g h p in
        let b : 1 ≤ hits s r es j = hits_has s r j es (f j (g, (h, p))) in
        let c : same j r ≡ 0 = same_no j r n in
        let u : under s r j ≡ 1 = under_step s t r j g h n ∙ subst (λ x. under_by x s r x ≡ 1) (sym p) (under_here s r r) in
        omega arith
    below n z (inr d) =
        let g : 0 < j = omega arith in
        let p : parent_at s j < j = t.above j g h in
        let q : parent_at s j < length s = omega arith in
        let i : hits s r es (parent_at s j) + same (parent_at s j) r ≡ under s r (parent_at s j) = ih (parent_at s j) p q in
        let k : same (parent_at s j) r ≡ 0 = same_no (parent_at s j) r d in
        let a : hits s r es j ≡ hits s r es (parent_at s j) = hits_step s t r j es g h d in
        let c : same j r ≡ 0 = same_no j r n in
        let u : under s r j ≡ under s r (parent_at s j) = under_step s t r j g h n in
        omega arith

    by_zero : (j ≡ r → ⊥) → (j ≡ 0) ⊎ (j ≡ 0 → ⊥) → hits s r es j + same j r ≡ under s r j
    by_zero n (inl z) = top n z
    by_zero n (inr z) = below n z (cases_eq (parent_at s j) r)

    by_row : (j ≡ r) ⊎ (j ≡ r → ⊥) → hits s r es j + same j r ≡ under s r j
    by_row (inl e) = here e
    by_row (inr n) = by_zero n (cases_eq j 0)

hits_are : (s : List ShapeRow) → IsRooted s → (r : ℕ) (es : List Entry) → Valid s es → Once es → Full s r es → (m j : ℕ) → j ≤ m → j < length s → hits s r es j + same j r ≡ under s r j
hits_are s t r es v o f zero j b h = hits_are_at s t r es v o f j h (λ i l k. absurd (omega arith))
hits_are s t r es v o f (suc m) j b h = hits_are_at s t r es v o f j h (λ i l k. hits_are s t r es v o f m i (omega arith) k)

-- ---- sums over the rows

count_eq : (f g : ℕ → ℕ) (n : ℕ) → ((j : ℕ) → j < n → f j ≡ g j) → count f n ≡ count g n
count_eq f g zero h = refl
count_eq f g (suc n) h =
    let a : f n ≡ g n = h n (omega arith) in
    let b : count f n ≡ count g n = count_eq f g n (λ j l. h j (omega arith)) in
    omega arith

count_add : (f g : ℕ → ℕ) (n : ℕ) → count (λ j. f j + g j) n ≡ count f n + count g n
count_add f g zero = refl
count_add f g (suc n) = let i : count (λ j. f j + g j) n ≡ count f n + count g n = count_add f g n in omega arith

count_none : (n : ℕ) → count (λ _. 0) n ≡ 0
count_none zero = refl
count_none (suc n) = let i : count (λ _. 0) n ≡ 0 = count_none n in omega arith

count_ones : (n : ℕ) → count (λ _. 1) n ≡ n
count_ones zero = refl
count_ones (suc n) = let i : count (λ _. 1) n ≡ n = count_ones n in omega arith

count_past : (r n : ℕ) → n ≤ r → count (λ j. same j r) n ≡ 0
count_past r zero h = refl
count_past r (suc n) h = grind (arith, nat_tests, count_past r n (omega arith))

count_same : (r n : ℕ) → r < n → count (λ j. same j r) n ≡ 1
count_same r zero h = absurd (omega arith)
count_same r (suc n) h = grind (arith, nat_tests, count_same r n, count_past r n)

sizes_count : (s : List ShapeRow) (r : ℕ) (es : List Entry) → sizes_of s (led_by s r es) ≡ count (λ j. hits s r es j) (length s)
sizes_count s r [] = sym (count_none (length s))
sizes_count s r (e ∷ es) = by_test (sizes_count s r es) (eqb (parent_at s e.row) r)
  where
    by_test : sizes_of s (led_by s r es) ≡ count (λ j. hits s r es j) (length s) → (b : Bool) → sizes_of s (cond b (e.row ∷ led_by s r es) []) ≡ count (λ j. cond b (under s e.row j + hits s r es j) 0) (length s)
    by_test i true = ap (λ n. size_of s e.row + n) i ∙ sym (count_add (λ j. under s e.row j) (λ j. hits s r es j) (length s))
    by_test i false = sym (count_none (length s))

-- ---- what the outline needs

pub sizes_are : (s : List ShapeRow) (order : List Entry) → IsRooted s → Arranged s order → (r k : ℕ) → r < length s → ((i : ℕ) → IsChild s r i → Has (led_by s r (drop k order)) i) → 1 + sizes_of s (led_by s r (drop k order)) ≡ size_of s r
sizes_are s order t a r k h full =
    let es = drop k order in
    let each : count (λ j. hits s r es j + same j r) (length s) ≡ size_of s r = count_eq (λ j. hits s r es j + same j r) (λ j. under s r j) (length s) (λ j l. hits_are s t r es valid once full j j (omega arith) l) in
    let sum = count_add (λ j. hits s r es j) (λ j. same j r) (length s) in
    let one = count_same r (length s) h in
    let all = sizes_count s r es in
    omega (arith, each, sum, one, all)
  where
    place : (j : ℕ) → entry_at (drop k order) j ≡ entry_at order (k + j)
    place j = get_or-drop k order j no_entry

    within : (j : ℕ) → j < length (drop k order) → k + j < length order
    within j l = omega (arith, length-drop k order)

    valid : Valid s (drop k order)
    valid j l = subst (λ x. (0 < x.row) × (x.row < length s)) (sym (place j)) (a.within (k + j) (within j l))

    once : Once (drop k order)
    once i j li lj e = let z : k + i ≡ k + j = a.once (k + i) (k + j) (within i li) (within j lj) (sym (ap (λ x. x.row) (place i)) ∙ e ∙ ap (λ x. x.row) (place j)) in omega arith

pub size_root : (s : List ShapeRow) → IsRooted s → size_of s 0 ≡ length s
size_root s t = count_eq (λ j. under s 0 j) (λ _. 1) (length s) (λ j l. under_all s t j j (omega arith) l) ∙ count_ones (length s)
