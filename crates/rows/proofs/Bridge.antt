-- What the code does to a table, in the words of summaries. Assumes nothing.
use Rattle.std.proofs.Common.{◌≡◌, ℕ, zero, suc, ◌+◌, ◌<◌, ◌≤◌, max, Bool, true, false, cond, ◌||◌, List, [], ◌∷◌, length, get_or, set, sym, refl, ap, ◌∙◌, subst, ap₂, ⊎_elim, add-one, arith, get_or-set_other, get_or-set_same}
use mathlib.Core.Path.{fun_ext}
use mathlib.Core.Bool.{or_comm, or_assoc}
use Rattle.std.proofs.lemmas.Bool.{cases_Bool, cases_eq, cases_lt, or_cases, or_left, or_right, cond-true, cond-false, lt-ltb, le-ltb}
use Rattle.trace.specs.declared.record.Record.TheVariants.{Call, Return, Unwind, Sample}
use Rattle.model.specs.Positions.{Position, at, same, returned, unwound, move}
use Rattle.metrics.specs.Measures.{Measure, Laws}
use Rattle.metrics.specs.Joins.{joins}
use Rattle.model.specs.Summaries.{Summary, summary, any_of, rooted, added}
use Rattle.rows.specs.Shapes.{Shape, blank, child, root}
use Rattle.rows.specs.Sound.{Table, Sound}
use Rattle.rows.specs.Steps.{Reached}
use Rattle.rows.specs.Reading.{trail, context, listed, reading}
use Rattle.rows.specs.Gains.{Gains}
use Rattle.model.proofs.Moves.{same_refl, same_true}
use Rattle.model.proofs.Rows.{alike, rooted_parts, rooted_from}
use Rattle.model.proofs.Trees.{move_up}
use Rattle.rows.proofs.Sounds.{put_alike, table_child, table_root, up_one}
use Rattle.rows.proofs.Readings.{context_child, context_root, contexts_apart, context_alike, depth_is, listed_same, any_is, any_known, any_rooted, joins_unit, joins_book}

pub summary_path : {M : Type 0} (a b : Summary M) → a.end ≡ b.end → ((x : Position) → a.row x ≡ b.row x) → ((x : Position) → a.value x ≡ b.value x) → a ≡ b
summary_path a b e f g = λ i. record { end = e i; row = fun_ext f i; value = fun_ext g i }

-- which contexts have rows does not hang on values
pub any_values : {M : Type 0} (none : M) (s : List Shape) (v w : List M) (n : ℕ) (test : Position → Bool) → any_of test (listed none s v n) ≡ any_of test (listed none s w n)
any_values none s v w zero test = refl
any_values none s v w (suc n) test = ap (λ r. test (context s n) || r) (any_values none s v w n test)

module _ {M : Type 0} {m : Measure M} (laws : Laws m) (s : List Shape) (v : List M) (n top : ℕ) (t : Table s n top) where
  -- a row that is there
  pub gains_old : (c : ℕ) → c < n → Gains m s s v v n n top top c (context s c)
  gains_old c h = record {
    table = t;
    more = omega arith;
    inside = h;
    is = refl;
    shapes = λ k l. refl;
    values = λ k l. refl;
    row = any_known m.none s v n c h;
    value = λ x. refl;
  }

  -- a row put after the others
  pub gains_new : (top' : ℕ) (r : Shape) → n < length v → Table (set s n r) (n + 1) top' → Gains m s (set s n r) v (set v n m.none) n (n + 1) top top' n (context (set s n r) n)
  gains_new top' r room t' =
      let s' = set s n r in
      let v' = set v n m.none in
      let a = put_alike s n r in
      let b : (k : ℕ) → k < n → get_or v' k m.none ≡ get_or v k m.none = (λ k h. get_or-set_other v n k m.none m.none (omega arith)) in
      let l = listed_same m.none s s' v v' n (context_alike s n top t s' a) b in
      record {
        table = t';
        more = omega arith;
        inside = omega arith;
        is = refl;
        shapes = a;
        values = b;
        row = λ x. ap (λ k. any_of (same x) (listed m.none s' v' k)) (add-one n) ∙ ap (λ r. same x (context s' n) || any_of (same x) r) l ∙ or_comm (same x (context s' n)) (any_of (same x) (listed m.none s v n));
        value = λ x. ap (λ k. joins m (same x) (listed m.none s' v' k)) (add-one n) ∙ joins_unit laws s' v' n x (get_or-set_same v n m.none m.none room) ∙ ap (joins m (same x)) l;
      }

  -- the row of f below up, found or made
  pub gains_reached : (s' : List Shape) (v' : List M) (up f c : ℕ) → up < n → 0 < f → length v ≡ length s → Reached m.none s s' v v' n up f c → Gains m s s' v v' n (max n (c + 1)) top top c (at (context s up).level (f ∷ (context s up).path))
  gains_reached s' v' up f c below named lv r = ⊎_elim
      (λ (l : c < n).
      let es : s' ≡ s = r.shapes ∙ cond-true _ _ _ (lt-ltb c n l) in
      let ev : v' ≡ v = r.values ∙ cond-true _ _ _ (lt-ltb c n l) in
      let em : max n (c + 1) ≡ n = omega arith in
      let pa = r.found.is_parent l in
      let fn = r.found.is_function l in
      let is : context s c ≡ at (context s up).level (f ∷ (context s up).path) = context_child s n top t c l (omega (arith, fn)) ∙ ap₂ (λ p g. at (context s p).level (g ∷ (context s p).path)) pa fn in
      rw (es, ev, em, ← is) (gains_old c l))
      (λ (l : n ≤ c).
      let ec : c ≡ n = omega (arith, r.found.within) in
      let es : s' ≡ set s n (child s up f) = r.shapes ∙ cond-false _ _ _ (le-ltb c n l) in
      let ev : v' ≡ set v n m.none = r.values ∙ cond-false _ _ _ (le-ltb c n l) in
      let em : max n (c + 1) ≡ n + 1 = omega arith in
      let room : n < length s = omega (arith, r.room) in
      let t' = table_child s n top up f t room below named r.shallow (r.found.absent l) in
      let g = gains_new top (child s up f) (omega arith) t' in
      let w : get_or (set s n (child s up f)) n blank ≡ child s up f = get_or-set_same s n (child s up f) blank room in
      let nm : 0 < (get_or (set s n (child s up f)) n blank).function = rw w named in
      let is : context (set s n (child s up f)) n ≡ at (context s up).level (f ∷ (context s up).path) =
      context_child (set s n (child s up f)) (n + 1) top t' n (omega arith) nm
      ∙ ap (λ (x : Shape). at (context (set s n (child s up f)) x.parent).level (x.function ∷ (context (set s n (child s up f)) x.parent).path)) w
      ∙ ap (λ (x : Position). at x.level (f ∷ x.path)) (context_alike s n top t (set s n (child s up f)) (put_alike s n (child s up f)) up below) in
      rw (es, ev, em, ec, ← is) g)
      (cases_lt c n)

  -- the root row of a new level
  pub gains_root : length v ≡ length s → n < length s → Gains m s (set s n (root (top + 1) n)) v (set v n m.none) n (n + 1) top (top + 1) n (at (top + 1) [])
  gains_root lv room =
      let r = root (top + 1) n in
      let t' = table_root s n top t room in
      let g = gains_new (top + 1) r (omega arith) t' in
      let w : get_or (set s n r) n blank ≡ r = get_or-set_same s n r blank room in
      let is : context (set s n r) n ≡ at (top + 1) [] = ap (λ (x : Shape). at x.level (trail (set s n r) x.depth n)) w in
      subst (λ y. Gains m s (set s n r) v (set v n m.none) n (n + 1) top (top + 1) n y) is g

  -- where the code finds no row, there is none
  pub none_there : (up f : ℕ) → up < n → ((k : ℕ) → k < n → (get_or s k blank).parent ≡ up → (get_or s k blank).function ≡ f → ⊥) → any_of (same (at (context s up).level (f ∷ (context s up).path))) (listed m.none s v n) ≡ false
  none_there up f below absent = ⊎_elim
      (λ e.
      let y : Position = at (context s up).level (f ∷ (context s up).path) in
      let k = any_is m.none s v n y e in
      let d : (get_or s k.0 blank).depth ≡ suc (length (context s up).path) = sym (depth_is s k.0) ∙ sym (ap (λ (x : Position). length x.path) k.2) in
      let q = up_one s n top t k.0 k.1 (omega arith) in
      let named : 0 < (get_or s k.0 blank).function = ⊎_elim
      (λ (z : (get_or s k.0 blank).function ≡ 0). absurd (omega (arith, ((t.good k.0 k.1).root z).depth)))
      (λ (z : (get_or s k.0 blank).function ≡ 0 → ⊥). omega arith)
      (cases_eq (get_or s k.0 blank).function 0) in
      let is : y ≡ at (context s (get_or s k.0 blank).parent).level ((get_or s k.0 blank).function ∷ (context s (get_or s k.0 blank).parent).path) = k.2 ∙ context_child s n top t k.0 k.1 named in
      let fn : f ≡ (get_or s k.0 blank).function = cc (ap (λ (x : Position). x.path) is) in
      let pt : (context s up).path ≡ (context s (get_or s k.0 blank).parent).path = cc (ap (λ (x : Position). x.path) is) in
      let pa : up ≡ (get_or s k.0 blank).parent = contexts_apart s n top t up (get_or s k.0 blank).parent below (omega (arith, q.parent, k.1)) (ap₂ at (ap (λ (x : Position). x.level) is) pt) in
      absurd (absent k.0 k.1 (sym pa) (sym fn)))
      (λ e. e)
      (cases_Bool (any_of (same (at (context s up).level (f ∷ (context s up).path))) (listed m.none s v n)))

-- a value booked at c
module _ {M : Type 0} {m : Measure M} (laws : Laws m) (s : List Shape) (v v' : List M) (n c : ℕ) (w : M) (inside : c < n) (room : c < length v) (e : v' ≡ set v c (m.join (get_or v c m.none) w)) where
  pub booked_row : (x : Position) → any_of (same x) (listed m.none s v' n) ≡ any_of (same x) (listed m.none s v n)
  booked_row x = any_values m.none s v' v n (same x)

  pub booked_value : (x : Position) → joins m (same x) (listed m.none s v' n) ≡ cond (same x (context s c)) (m.join (joins m (same x) (listed m.none s v n)) w) (joins m (same x) (listed m.none s v n))
  booked_value x = ap (λ u. joins m (same x) (listed m.none s u n)) e ∙ joins_book laws s v n c w x inside room

-- ---- levels
pub rooted_suc : (p : ℕ) (x : Position) → rooted (suc p) x ≡ (rooted p x || same x (at (suc p) []))
rooted_suc p x = alike _ _
    (λ t. let both = rooted_parts (suc p) x t in let low = both.1 in
    ⊎_elim
    (λ (l : x.level < suc p). or_left _ _ (rooted_from p x both.0 (omega arith)))
    (λ (l : suc p ≤ x.level).
    let is : x ≡ at (suc p) [] = ap₂ at {x = x.level} {y = suc p} (omega arith) both.0 in
    or_right (rooted p x) _ (subst (λ z. same z (at (suc p) []) ≡ true) (sym is) (same_refl (at (suc p) []))))
    (cases_lt x.level (suc p)))
    (λ t. ⊎_elim
    (λ r. let both = rooted_parts p x r in let low = both.1 in rooted_from (suc p) x both.0 (omega arith))
    (λ r. let is = same_true x (at (suc p) []) r in let l = ap (λ (z : Position). z.level) is in rooted_from (suc p) x (ap (λ (z : Position). z.path) is) (omega arith))
    (or_cases _ _ t))

pub rooted_rise : (l p : ℕ) (x : Position) (b : Bool) → l ≤ p → ((b || rooted l x) || rooted p x) ≡ (b || rooted p x)
rooted_rise l p x b h = alike _ _
    (λ t. ⊎_elim
    (λ r. ⊎_elim (or_left _ _) (λ q. let both = rooted_parts l x q in let low = both.1 in or_right b _ (rooted_from p x both.0 (omega arith))) (or_cases b (rooted l x) r))
    (or_right b _)
    (or_cases (b || rooted l x) (rooted p x) t))
    (λ t. ⊎_elim (λ r. or_left _ _ (or_left _ _ r)) (or_right (b || rooted l x) _) (or_cases b (rooted p x) t))

pub unwound_last : (n : ℕ) (p : Position) → unwound (suc n) p ≡ returned (unwound n p).level (unwound n p).path
unwound_last zero p = refl
unwound_last (suc n) p = unwound_last n (returned p.level p.path)

-- one return more
pub unwinds_more : {M : Type 0} (m : Measure M) (a : Summary M) (n : ℕ) → added m (added m a (Unwind n)) Return ≡ added m a (Unwind (suc n))
unwinds_more m a n = summary_path _ _ (sym (unwound_last n a.end))
    (λ x. rooted_rise (unwound n a.end).level (move (unwound n a.end) Return).level x (a.row x) (move_up (unwound n a.end) Return) ∙ ap (λ (p : Position). a.row x || rooted p.level x) (sym (unwound_last n a.end)))
    (λ x. refl)

pub rooted_zero : (x : Position) → same x (at 0 []) ≡ rooted 0 x
rooted_zero x = alike _ _
    (λ t. let is = same_true x (at 0 []) t in let l = ap (λ (z : Position). z.level) is in rooted_from 0 x (ap (λ (z : Position). z.path) is) (omega arith))
    (λ t. let both = rooted_parts 0 x t in let low = both.1 in
    let is : x ≡ at 0 [] = ap₂ at {x = x.level} {y = 0} (omega arith) both.0 in
    subst (λ z. same z (at 0 []) ≡ true) (sym is) (same_refl (at 0 [])))

-- the first row alone
pub reading_new : {M : Type 0} {m : Measure M} → Laws m → (s : List Shape) (v : List M) → get_or s 0 blank ≡ blank → get_or v 0 m.none ≡ m.none → reading m s v 1 0 ≡ summary m []
reading_new {m} laws s v e f =
    let is : context s 0 ≡ at 0 [] = ap (λ (x : Shape). at x.level (trail s x.depth 0)) e in
    summary_path _ _ is
    (λ x. ap (λ y. same x y || false) is ∙ ap (λ b. b || false) (rooted_zero x))
    (λ x. joins_unit laws s v 0 x f)

-- ---- the records
module _ {M : Type 0} {m : Measure M} (laws : Laws m) (s : List Shape) (v : List M) (n top cur : ℕ) (o : Sound s n top cur) where
  pub called : (s' : List Shape) (v₁ v' : List M) (n' f c : ℕ) → Gains m s s' v v₁ n n' top top c (at (context s cur).level (f ∷ (context s cur).path)) → c < length v₁ → v' ≡ set v₁ c (m.join (get_or v₁ c m.none) m.of_call) → reading m s' v' n' c ≡ added m (reading m s v n cur) (Call f)
  called s' v₁ v' n' f c g room e = summary_path _ _ g.is
      (λ x. booked_row laws s' v₁ v' n' c m.of_call g.inside room e x ∙ g.row x)
      (λ x. booked_value laws s' v₁ v' n' c m.of_call g.inside room e x ∙ ap₂ (λ y j. cond (same x y) (m.join j m.of_call) j) g.is (g.value x))

  pub sampled : (v' : List M) (w : _) → cur < length v → v' ≡ set v cur (m.join (get_or v cur m.none) (m.of_sample w)) → reading m s v' n cur ≡ added m (reading m s v n cur) (Sample w)
  sampled v' w room e = summary_path _ _ refl
      (booked_row laws s v v' n cur (m.of_sample w) o.opened room e)
      (booked_value laws s v v' n cur (m.of_sample w) o.opened room e)

  -- the rows with the empty path up to the level are there
  pub level_rows : (l : ℕ) → l ≡ top → (x : Position) → any_of (same x) (listed m.none s v n) ≡ (any_of (same x) (listed m.none s v n) || rooted l x)
  level_rows l e x = rw e (any_rooted m.none s v n top o.table x)

  pub returned_child : 0 < (get_or s cur blank).function → reading m s v n (get_or s cur blank).parent ≡ added m (reading m s v n cur) Return
  returned_child f =
      let is = context_child s n top o.table cur o.opened f in
      let mv : move (context s cur) Return ≡ context s (get_or s cur blank).parent = ap (λ (x : Position). returned x.level x.path) is in
      let k = (o.table.good cur o.opened).child f in
      summary_path _ _ (sym mv) (level_rows _ (ap (λ (x : Position). x.level) mv ∙ sym k.level ∙ o.here)) (λ x. refl)

  pub returned_root : (s' : List Shape) (v' : List M) → (get_or s cur blank).function ≡ 0 → Gains m s s' v v' n (n + 1) top (top + 1) n (at (top + 1) []) → reading m s' v' (n + 1) n ≡ added m (reading m s v n cur) Return
  returned_root s' v' z g =
      let is : context s cur ≡ at top [] = ap₂ at o.here (ap (λ (x : Position). x.path) (context_root s n top o.table cur o.opened z)) in
      let mv : move (context s cur) Return ≡ at (suc top) [] = ap (λ (x : Position). returned x.level x.path) is in
      let up : at (top + 1) [] ≡ at (suc top) [] = ap (λ l. at l []) (add-one top) in
      summary_path _ _ (g.is ∙ up ∙ sym mv)
      (λ x. g.row x ∙ ap (λ y. any_of (same x) (listed m.none s v n) || same x y) up
      ∙ ap (λ b. b || same x (at (suc top) [])) (level_rows top refl x)
      ∙ or_assoc (any_of (same x) (listed m.none s v n)) (rooted top x) (same x (at (suc top) []))
      ∙ ap (λ b. any_of (same x) (listed m.none s v n) || b) (sym (rooted_suc top x))
      ∙ ap (λ (p : Position). any_of (same x) (listed m.none s v n) || rooted p.level x) (sym mv))
      (λ x. g.value x)

  pub unwound_none : reading m s v n cur ≡ added m (reading m s v n cur) (Unwind 0)
  unwound_none = summary_path _ _ refl (level_rows _ o.here) (λ x. refl)
