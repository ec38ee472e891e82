-- The children that lead the order from a row's start are the row's children, and their lines are put one after the other.
use Rattle.std.proofs.Common.{◌≡◌, ℕ, zero, suc, ◌+◌, ◌-◌, ◌<◌, ◌≤◌, eqb, ◌⊎◌, List, [], ◌∷◌, ◌++◌, length, drop, set, sym, refl, ap, ◌∙◌, subst, inl, inr, add-zero, add-one, arith, length-append}
use Rattle.std.specs.List.{ContainsAt as Has, AllByRecursion}
use Rattle.std.proofs.lemmas.List.Edits.{sets, sets-eq}
use Rattle.std.proofs.lemmas.List.{get_or-drop, length-drop, drop_all, at_drop_more}
use Rattle.std.proofs.lemmas.Bool.{cond-true, cond-false, cond_both, eq-eqb, ne_eqb, eqb-true, cases_lt}
use Rattle.rows.specs.declared.shape.ShapeRow.{ShapeRow}
use Rattle.report.specs.declared.order.Entry.{Entry}
use Rattle.report.specs.declared.outline.Line.{Line}
use Rattle.rows.specs.ShapeColumn.{IsShape, function_at, parent_at, depth_of}
use Rattle.report.specs.Order.{no_entry, entry_at, entry_of, Arranged, Begins}
use Rattle.report.specs.Outline.{Drawn, IsChild, IsChildren, Rising, Outlines, RowDrawn, RowsDrawn, none, more, led_by, line_of, put}
use Rattle.report.proofs.Apart.{Before, far, twins_fault}

-- ---- a stretch of the order

record Stretch (s : List ShapeRow) (es : List Entry) : Type 0 where
  within : (k : ℕ) → k < length es → (0 < (entry_at es k).row) × ((entry_at es k).row < length s)
  each : (k : ℕ) → k < length es → entry_at es k ≡ entry_of s (entry_at es k).row
  climbs : (j k : ℕ) → j < k → k < length es → Before (entry_at es j) (entry_at es k)

rest_of : (s : List ShapeRow) (e : Entry) (es : List Entry) → Stretch s (e ∷ es) → Stretch s es
rest_of s e es t = record {
  within = λ k h. t.within (suc k) (omega arith);
  each = λ k h. t.each (suc k) (omega arith);
  climbs = λ j k l h. t.climbs (suc j) (suc k) (omega arith) (omega arith);
}

before_at : (s : List ShapeRow) (order : List Entry) → IsShape s → Arranged s order → (j k : ℕ) → j < k → k < length order → Before (entry_at order j) (entry_at order k)
before_at s order shape a j k l h = far s order a (λ t. twins_fault s order a t shape) (k - j - 1) j k (omega arith) h

stretch_drop : (s : List ShapeRow) (order : List Entry) → IsShape s → Arranged s order → (n : ℕ) → Stretch s (drop n order)
stretch_drop s order shape a n = record {
  within = λ k h. subst (λ x. (0 < x.row) × (x.row < length s)) (sym (place k)) (a.within (n + k) (inside k h));
  each = λ k h. subst (λ x. x ≡ entry_of s x.row) (sym (place k)) (a.each (n + k) (inside k h));
  climbs = λ j k l h. subst (λ x. Before x (entry_at (drop n order) k)) (sym (place j)) (subst (λ x. Before (entry_at order (n + j)) x) (sym (place k)) (before_at s order shape a (n + j) (n + k) (omega arith) (inside k h)));
}
  where
    place : (j : ℕ) → entry_at (drop n order) j ≡ entry_at order (n + j)
    place j = get_or-drop n order j no_entry

    inside : (j : ℕ) → j < length (drop n order) → n + j < length order
    inside j l = omega (arith, length-drop n order)

-- ---- the children that lead it

led_each : (s : List ShapeRow) (r : ℕ) (es : List Entry) → Stretch s es → AllByRecursion (IsChild s r) (led_by s r es)
led_each s r [] t = tt
led_each s r (e ∷ es) t =
    let w = t.within 0 (omega arith) in
    cond_both (eqb (parent_at s e.row) r) (e.row ∷ led_by s r es) [] (λ l. AllByRecursion (IsChild s r) l)
    (λ q. ((w.0, (w.1, eqb-true (parent_at s e.row) r q)), led_each s r es (rest_of s e es t)))
    (λ _. tt)

led_later : (s : List ShapeRow) (r f : ℕ) (es : List Entry) → ((k : ℕ) → k < length es → parent_at s (entry_at es k).row ≡ r → f < function_at s (entry_at es k).row) → AllByRecursion (λ d. f < function_at s d) (led_by s r es)
led_later s r f [] h = tt
led_later s r f (e ∷ es) h =
    cond_both (eqb (parent_at s e.row) r) (e.row ∷ led_by s r es) [] (λ l. AllByRecursion (λ d. f < function_at s d) l)
    (λ q. (h 0 (omega arith) (eqb-true (parent_at s e.row) r q), led_later s r f es (λ k l. h (suc k) (omega arith))))
    (λ _. tt)

function_above : (s : List ShapeRow) (x y : Entry) → x ≡ entry_of s x.row → y ≡ entry_of s y.row → parent_at s x.row ≡ parent_at s y.row → Before x y → function_at s x.row < function_at s y.row
function_above s x y ex ey p (inl h) =
    let a : x.parent ≡ parent_at s x.row = ap (λ e. e.parent) ex in
    let b : y.parent ≡ parent_at s y.row = ap (λ e. e.parent) ey in
    absurd (omega arith)
function_above s x y ex ey p (inr h) =
    let a : x.function ≡ function_at s x.row = ap (λ e. e.function) ex in
    let b : y.function ≡ function_at s y.row = ap (λ e. e.function) ey in
    omega (arith, h.1)

led_rising : (s : List ShapeRow) (r : ℕ) (es : List Entry) → Stretch s es → Rising s (led_by s r es)
led_rising s r [] t = tt
led_rising s r (e ∷ es) t =
    cond_both (eqb (parent_at s e.row) r) (e.row ∷ led_by s r es) [] (λ l. Rising s l)
    (λ q. (
      led_later s r (function_at s e.row) es (λ k l p. function_above s e (entry_at es k) (t.each 0 (omega arith)) (t.each (suc k) (omega arith)) (eqb-true (parent_at s e.row) r q ∙ sym p) (t.climbs 0 (suc k) (omega arith) (omega arith))),
      led_rising s r es (rest_of s e es t),
    ))
    (λ _. tt)

led_more : (s : List ShapeRow) (r : ℕ) (e : Entry) (es : List Entry) → parent_at s e.row ≡ r → led_by s r (e ∷ es) ≡ e.row ∷ led_by s r es
led_more s r e es p = cond-true (eqb (parent_at s e.row) r) (e.row ∷ led_by s r es) [] (eq-eqb (parent_at s e.row) r p)

led_has : (s : List ShapeRow) (r : ℕ) (es : List Entry) (k : ℕ) → k < length es → ((j : ℕ) → j ≤ k → parent_at s (entry_at es j).row ≡ r) → Has (led_by s r es) (entry_at es k).row
led_has s r [] k h p = absurd (omega arith)
led_has s r (e ∷ es) zero h p = subst (λ l. Has l e.row) (sym (led_more s r e es (p 0 (omega arith)))) (0, omega arith, λ d. refl)
led_has s r (e ∷ es) (suc k) h p =
    let i = led_has s r es k (omega arith) (λ j l. p (suc j) (omega arith)) in
    subst (λ l. Has l (entry_at es k).row) (sym (led_more s r e es (p 0 (omega arith)))) (suc i.0, omega (arith, i.1), λ d. i.2 d)

parents_rise : (s : List ShapeRow) (order : List Entry) → IsShape s → Arranged s order → (j k : ℕ) → j ≤ k → k < length order → (entry_at order j).parent ≤ (entry_at order k).parent
parents_rise s order shape a j k l h = by_place (cases_lt j k)
  where
    by_before : Before (entry_at order j) (entry_at order k) → (entry_at order j).parent ≤ (entry_at order k).parent
    by_before (inl b) = omega arith
    by_before (inr b) = omega (arith, b.0)

    by_place : (j < k) ⊎ (k ≤ j) → (entry_at order j).parent ≤ (entry_at order k).parent
    by_place (inl m) = by_before (before_at s order shape a j k m h)
    by_place (inr m) = let e : k ≡ j = omega arith in subst (λ x. (entry_at order j).parent ≤ (entry_at order x).parent) (sym e) (omega arith)

pub led_children : (s : List ShapeRow) (order : List Entry) (r at : ℕ) → IsShape s → Arranged s order → Begins order r at → IsChildren s r (led_by s r (drop at order))
led_children s order r at shape a b = record {
  each = led_each s r (drop at order) (stretch_drop s order shape a at);
  all = λ i c. found i c (a.all i c.0 c.1.0);
  rising = led_rising s r (drop at order) (stretch_drop s order shape a at);
}
  where
    found : (i : ℕ) → IsChild s r i → Has order (entry_of s i) → Has (led_by s r (drop at order)) i
    found i c h =
        let em : entry_at order h.0 ≡ entry_of s i = h.2 no_entry in
        let pm : (entry_at order h.0).parent ≡ r = ap (λ x. x.parent) em ∙ c.1.1 in
        let from : at ≤ h.0 = after h.0 pm (cases_lt h.0 at) in
        let m : at + (h.0 - at) ≡ h.0 = omega arith in
        let k : h.0 - at < length (drop at order) = omega (arith, length-drop at order, h.1) in
        let is : (entry_at (drop at order) (h.0 - at)).row ≡ i = ap (λ x. x.row) (get_or-drop at order (h.0 - at) no_entry ∙ ap (entry_at order) m ∙ em) in
        subst (λ x. Has (led_by s r (drop at order)) x) is (led_has s r (drop at order) (h.0 - at) k (λ j l. between j h.0 from (omega arith) h.1 pm))
      where
        after : (m : ℕ) → (entry_at order m).parent ≡ r → (m < at) ⊎ (at ≤ m) → at ≤ m
        after m p (inl l) = absurd (b.none_before m l p)
        after m p (inr l) = l

        between : (j m : ℕ) → at ≤ m → at + j ≤ m → m < length order → (entry_at order m).parent ≡ r → parent_at s (entry_at (drop at order) j).row ≡ r
        between j m f l h p =
            let first : (entry_at order at).parent ≡ r = b.here (omega arith) in
            let low : (entry_at order at).parent ≤ (entry_at order (at + j)).parent = parents_rise s order shape a at (at + j) (omega arith) (omega arith) in
            let high : (entry_at order (at + j)).parent ≤ (entry_at order m).parent = parents_rise s order shape a (at + j) m l h in
            let own : (entry_at order (at + j)).parent ≡ parent_at s (entry_at order (at + j)).row = ap (λ x. x.parent) (a.each (at + j) (omega arith)) in
            ap (λ x. parent_at s x.row) (get_or-drop at order j no_entry) ∙ (omega arith)

-- ---- the lines

put_append : (column : List Line) (at : ℕ) (xs ys : List Line) → put column at (xs ++ ys) ≡ put (put column at xs) (at + length xs) ys
put_append column at [] ys = ap (λ n. put column n ys) (sym (add-zero at))
put_append column at (x ∷ xs) ys =
    let e : (at + 1) + length xs ≡ at + length (x ∷ xs) = omega arith in
    put_append (set column at x) (at + 1) xs ys ∙ ap (λ n. put (put (set column at x) (at + 1) xs) n ys) e

pub row_drawn : (s : List ShapeRow) (order : List Entry) → IsShape s → Arranged s order → (r at end start depth : ℕ) (old new : List Line) → Begins order r start → depth ≡ depth_of s r → RowsDrawn s (led_by s r (drop start order)) (at + 1) end (set old at (record { row = r; depth = depth })) new → RowDrawn s r at end old new
row_drawn s order shape a r at end start depth old new b e d = record {
  lines = line_of s r ∷ d.lines;
  outline = record { children = led_by s r (drop start order); below = d.lines; whole = led_children s order r start shape a b; outlines = d.outlines; is = refl };
  written = d.written ∙ ap (λ n. put (set old at (record { row = r; depth = n })) (at + 1) d.lines) e;
  ends = omega (arith, d.ends);
}

pub rows_none : (s : List ShapeRow) (rs : List ℕ) (at : ℕ) (column : List Line) → rs ≡ [] → RowsDrawn s rs at at column column
rows_none s rs at column e = record { lines = []; outlines = subst (λ l. Outlines s l []) (sym e) none; written = refl; ends = omega arith }

pub rows_more : (s : List ShapeRow) (all rest : List ℕ) (r at mid end : ℕ) (old half new : List Line) → all ≡ r ∷ rest → RowDrawn s r at mid old half → RowsDrawn s rest mid end half new → RowsDrawn s all at end old new
rows_more s all rest r at mid end old half new e d ds =
    let o = d.outline in
    let first : d.lines ++ ds.lines ≡ (line_of s r ∷ o.below) ++ ds.lines = ap (λ l. l ++ ds.lines) o.is in
    record {
      lines = d.lines ++ ds.lines;
      outlines = subst (λ l. Outlines s l (d.lines ++ ds.lines)) (sym e) (more r rest o.children o.below ds.lines (d.lines ++ ds.lines) o.whole o.outlines ds.outlines first);
      written = ds.written ∙ ap (λ c. put c mid ds.lines) d.written ∙ ap (λ n. put (put old at d.lines) n ds.lines) d.ends ∙ sym (put_append old at d.lines ds.lines);
      ends = omega (arith, d.ends, ds.ends, length-append d.lines ds.lines);
    }

pub led_step : (s : List ShapeRow) (order : List Entry) (parent k : ℕ) → k < length order → parent_at s (entry_at order k).row ≡ parent → led_by s parent (drop k order) ≡ (entry_at order k).row ∷ led_by s parent (drop (k + 1) order)
led_step s order parent k h e = at_drop_more (led_by s parent) order k no_entry h ∙ led_more s parent (entry_at order k) (drop (k + 1) order) e

pub led_end : (s : List ShapeRow) (order : List Entry) (parent k : ℕ) → k < length order → (parent_at s (entry_at order k).row ≡ parent → ⊥) → led_by s parent (drop k order) ≡ []
led_end s order parent k h n =
    at_drop_more (led_by s parent) order k no_entry h
    ∙ cond-false (eqb (parent_at s (entry_at order k).row) parent) ((entry_at order k).row ∷ led_by s parent (drop (k + 1) order)) [] (ne_eqb (parent_at s (entry_at order k).row) parent n)

pub led_none : (s : List ShapeRow) (order : List Entry) (parent k : ℕ) → length order ≤ k → led_by s parent (drop k order) ≡ []
led_none s order parent k h = ap (led_by s parent) (drop_all k order h)

-- ---- the whole column

put_sets : (column : List Line) (at : ℕ) (ls : List Line) → put column at ls ≡ sets column at ls
put_sets column at [] = refl
put_sets column at (l ∷ ls) = put_sets (set column at l) (at + 1) ls ∙ ap (λ n. sets (set column at l) n ls) (add-one at)

pub whole_drawn : (s : List ShapeRow) (end : ℕ) (old new : List Line) → end ≡ length s → length s ≤ length old → RowDrawn s 0 0 end old new → Drawn s old new
whole_drawn s end old new e room d =
    let n : length d.lines ≡ length s = omega (arith, d.ends) in
    let m : 0 + length d.lines ≡ length s = omega arith in
    record {
      lines = d.lines;
      outline = d.outline;
      long = n;
      is = d.written ∙ put_sets old 0 d.lines ∙ sets-eq d.lines old 0 (omega arith) ∙ ap (λ k. d.lines ++ drop k old) m;
    }
