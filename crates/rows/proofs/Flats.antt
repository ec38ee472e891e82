-- A summary's rows become its tree's. Assumes nothing.
use Rattle.std.proofs.Common.{◌≡◌, ℕ, zero, suc, ◌+◌, ◌<◌, ◌≤◌, max, Bool, true, false, cond, ◌||◌, ◌≢◌, List, [], ◌∷◌, length, get_or, set, sym, refl, ap, ◌∙◌, subst, ap₂, ⊎_elim, add-one, arith, length-set, get_or-set_other, get_or-set_same, below_more}
use mathlib.Core.Path.{fun_ext}
use mathlib.Core.Bool.{or_comm}
use Rattle.std.proofs.lemmas.Bool.{cases_eq, cases_lt, cond-true, cond-false, eq-eqb, ne_eqb, lt-ltb, le-ltb}
use Rattle.model.specs.Positions.{Position, at, same, same_path}
use Rattle.metrics.specs.Measures.{Measure, Laws}
use Rattle.metrics.specs.Joins.{joins, over, calling}
use Rattle.model.specs.Summaries.{any_of}
use Rattle.model.specs.Trees.{finished}
use Rattle.rows.specs.Shapes.{Shape, blank, child}
use Rattle.rows.specs.Sound.{Good, Table, Sound}
use Rattle.rows.specs.Steps.{Reached, grown, grownValues}
use Rattle.rows.specs.Reading.{context, listed, reading}
use Rattle.rows.specs.Gains.{Gains}
use Rattle.rows.specs.Flats.{flat, child_target, book_at, seat_target, Ready, Seated, Flattening, tree_reading}
use Rattle.model.proofs.Rows.{calling_laws}
use Rattle.model.proofs.Trees.{Below, levels_rows}
use Rattle.model.proofs.Added.{flags, any_flags}
use Rattle.rows.proofs.Sounds.{some, roots_root, level_low}
use Rattle.rows.proofs.Readings.{context_child, context_root, context_alike, depth_is, listed_same, joins_book}
use Rattle.rows.proofs.Bridge.{any_values, gains_old, gains_reached}

-- the first row is a root row
pub first_root : (s : List Shape) (n top : ℕ) → Table s n top → (get_or s 0 blank).function ≡ 0
first_root s n top t = ⊎_elim
    (λ (z : (get_or s 0 blank).function ≡ 0). z)
    (λ (z : (get_or s 0 blank).function ≡ 0 → ⊥). absurd (omega (arith, ((t.good 0 (some s n top t)).child (omega arith)).parent)))
    (cases_eq (get_or s 0 blank).function 0)

first_context : (s : List Shape) (n top : ℕ) → Table s n top → context s 0 ≡ at 0 []
first_context s n top t = context_root s n top t 0 (some s n top t) (first_root s n top t)

-- a write beyond what is read
grown_other : (s : List Shape) (n up f c k : ℕ) → n < k → get_or (grown s n up f c) k blank ≡ get_or s k blank
grown_other s n up f c k h = ⊎_elim
    (λ (l : c < n). ap (λ u. get_or u k blank) (cond-true _ _ _ (lt-ltb c n l)))
    (λ (l : n ≤ c). ap (λ u. get_or u k blank) (cond-false _ _ _ (le-ltb c n l)) ∙ get_or-set_other s n k (child s up f) blank (omega arith))
    (cases_lt c n)

grown_values_other : {M : Type 0} (none : M) (v : List M) (n c k : ℕ) → n < k → get_or (grownValues none v n c) k none ≡ get_or v k none
grown_values_other none v n c k h = ⊎_elim
    (λ (l : c < n). ap (λ u. get_or u k none) (cond-true _ _ _ (lt-ltb c n l)))
    (λ (l : n ≤ c). ap (λ u. get_or u k none) (cond-false _ _ _ (le-ltb c n l)) ∙ get_or-set_other v n k none none (omega arith))
    (cases_lt c n)

grown_values_long : {M : Type 0} (none : M) (v : List M) (n c : ℕ) → length (grownValues none v n c) ≡ length v
grown_values_long none v n c = ⊎_elim
    (λ (l : c < n). ap length (cond-true _ _ _ (lt-ltb c n l)))
    (λ (l : n ≤ c). ap length (cond-false _ _ _ (le-ltb c n l)) ∙ length-set v n none)
    (cases_lt c n)

-- ---- one row
module _ {M : Type 0} {m : Measure M} (laws : Laws m) (s : List Shape) (v : List M) (marks : List ℕ) (c i : ℕ) (ready : Ready s marks c i) where
  pub seated_root : (v' : List M) (marks' : List ℕ) → (get_or s i blank).function ≡ 0 → v' ≡ book_at m (set v i m.none) 0 (get_or v i m.none) → marks' ≡ set marks i 0 → Seated m s s v v' marks marks' c i 0
  seated_root v' marks' z ev em =
      let h = ready.some in
      let v₁ = set v i m.none in
      let g = gains_old laws s v₁ c 0 ready.table 0 h in
      let e₀ : grownValues m.none v₁ c 0 ≡ v₁ = cond-true _ _ _ (lt-ltb 0 c h) in
      let en : max c (0 + 1) ≡ c = omega arith in
      let ey : context s 0 ≡ seat_target s marks (get_or s i blank).function (get_or s i blank).parent = first_context s c 0 ready.table ∙ sym (cond-true _ _ _ (eq-eqb (get_or s i blank).function 0 z)) in
      record {
        gains = subst (λ y. Gains m s s v₁ (grownValues m.none v₁ c 0) c (max c (0 + 1)) 0 0 0 y) ey (subst (λ u. Gains m s s v₁ u c (max c (0 + 1)) 0 0 0 (context s 0)) (sym e₀) (subst (λ n. Gains m s s v₁ v₁ c n 0 0 0 (context s 0)) (sym en) g));
        booked = ev ∙ ap (λ u. book_at m u 0 (get_or v i m.none)) (sym e₀);
        near = omega arith;
        rest = λ k l. refl;
        noted = em;
      }

  pub seated_child : (s' : List Shape) (v₂ v' : List M) (marks' : List ℕ) (r : ℕ) → 0 < (get_or s i blank).function → length v ≡ length s
      → Reached m.none s s' (set v i m.none) v₂ c (get_or marks (get_or s i blank).parent 0) (get_or s i blank).function r
      → v' ≡ book_at m v₂ r (get_or v i m.none) → marks' ≡ set marks i r → Seated m s s' v v' marks marks' c i r
  seated_child s' v₂ v' marks' r f lv q ev em =
      let v₁ = set v i m.none in
      let up = get_or marks (get_or s i blank).parent 0 in
      let fn = (get_or s i blank).function in
      let g = gains_reached laws s v₁ c 0 ready.table s' v₂ up fn r (ready.marked f) f (length-set v i m.none ∙ lv) q in
      let ey : child_target s up fn ≡ seat_target s marks fn (get_or s i blank).parent = sym (cond-false _ _ _ (ne_eqb fn 0 (λ (z : fn ≡ 0). omega arith))) in
      record {
        gains = subst (λ y. Gains m s s' v₁ (grownValues m.none v₁ c r) c (max c (r + 1)) 0 0 r y) ey (subst (λ u. Gains m s s' v₁ u c (max c (r + 1)) 0 0 r (child_target s up fn)) q.values g);
        booked = ev ∙ ap (λ u. book_at m u r (get_or v i m.none)) q.values;
        near = q.found.within;
        rest = λ k l. ap (λ u. get_or u k blank) q.shapes ∙ grown_other s c up fn r k (omega (arith, ready.high));
        noted = em;
      }

-- ---- the loop
module _ {M : Type 0} {m : Measure M} (laws : Laws m) (s : List Shape) (v : List M) (n top : ℕ) (t : Table s n top) where
  pub flat_start : (marks : List ℕ) → get_or marks 0 0 ≡ 0 → Flattening m s s v v marks 1 1
  flat_start marks e =
      let fc = first_context s n top t in
      let fr = first_root s n top t in
      let q = t.good 0 (some s n top t) in
      let r = q.root fr in
      record {
        some = omega arith;
        high = omega arith;
        table = record {
          fits = omega (arith, t.fits, some s n top t);
          good = λ k h. let z : 0 ≡ k = omega arith in subst (λ j. Good s j) z q;
          apart = λ j k a b _ _ _. omega arith;
          levels = roots_root s 0 fr;
        };
        rest = λ k h. refl;
        values = λ k h. refl;
        marked = λ k h. let z : 0 ≡ k = omega arith in subst (λ j. (get_or marks j 0 < 1) × (context s (get_or marks j 0) ≡ flat (context s j))) z (omega arith, ap (context s) e ∙ fc ∙ sym (ap flat fc));
        row = λ x. ap (λ y. same x y || false) (fc ∙ sym (ap flat fc));
        value = λ x. ap (λ y. cond (same x y) (m.join (get_or v 0 m.none) m.none) m.none) (fc ∙ sym (ap flat fc));
      }

  module _ (s' : List Shape) (v' : List M) (marks : List ℕ) (c i : ℕ) (h : i < n) (x : Flattening m s s' v v' marks c i) where
    here : get_or s' i blank ≡ get_or s i blank
    here = x.rest i (omega arith)

    -- where the row goes
    target : seat_target s' marks (get_or s' i blank).function (get_or s' i blank).parent ≡ flat (context s i)
    target = ap (λ (r : Shape). seat_target s' marks r.function r.parent) here ∙ ⊎_elim
        (λ (z : (get_or s i blank).function ≡ 0). cond-true _ _ _ (eq-eqb (get_or s i blank).function 0 z) ∙ sym (ap flat (context_root s n top t i h z)))
        (λ (z : (get_or s i blank).function ≡ 0 → ⊥).
        let f : 0 < (get_or s i blank).function = omega arith in
        let k = (t.good i h).child f in
        cond-false _ _ _ (ne_eqb (get_or s i blank).function 0 z)
        ∙ ap (λ (y : Position). at y.level ((get_or s i blank).function ∷ y.path)) (x.marked (get_or s i blank).parent k.parent).1
        ∙ sym (ap flat (context_child s n top t i h f)))
        (cases_eq (get_or s i blank).function 0)

    pub flat_ready : Ready s' marks c i
    flat_ready =
        let hf = ap (λ (r : Shape). r.function) here in
        let hp = ap (λ (r : Shape). r.parent) here in
        record {
          some = x.some;
          high = x.high;
          table = x.table;
          lower = λ f. omega (arith, hp, ((t.good i h).child (omega (arith, hf))).parent);
          marked = λ f. subst (λ p. get_or marks p 0 < c) (sym hp) (x.marked (get_or s i blank).parent ((t.good i h).child (omega (arith, hf))).parent).0;
          shallow = λ f.
              let k = (t.good i h).child (omega (arith, hf)) in
              let w = x.marked (get_or s i blank).parent k.parent in
              subst (λ p. (get_or s' (get_or marks p 0) blank).depth < 512) (sym hp)
              (omega (arith, depth_is s' (get_or marks (get_or s i blank).parent 0), ap (λ (y : Position). length y.path) w.1, depth_is s (get_or s i blank).parent, k.depth, (t.good i h).depth));
        }

    pub flat_step : (s'' : List Shape) (v'' : List M) (marks' : List ℕ) (r : ℕ) → i < length marks → i < length v' → Seated m s' s'' v' v'' marks marks' c i r → Flattening m s s'' v v'' marks' (max c (r + 1)) (i + 1)
    flat_step s'' v'' marks' r im iv q =
        let g = q.gains in
        let v₁ = set v' i m.none in
        let v₂ = grownValues m.none v₁ c r in
        let c' = max c (r + 1) in
        let old = context_alike s' c 0 x.table s'' g.shapes in
        let is : context s'' r ≡ flat (context s i) = g.is ∙ target in
        let l₁ : listed m.none s' v₁ c ≡ listed m.none s' v' c = listed_same m.none s' s' v' v₁ c (λ k l. refl) (λ k l. get_or-set_other v' i k m.none m.none (omega (arith, x.high))) in
        let w : get_or v' i m.none ≡ get_or v i m.none = x.values i (omega arith) in
        let low : r ≤ i = omega (arith, q.near, x.high) in
        record {
          some = omega (arith, x.some);
          high = omega (arith, x.high, q.near);
          table = g.table;
          rest = λ k l. q.rest k (omega arith) ∙ x.rest k (omega arith);
          values = λ k l.
              ap (λ u. get_or u k m.none) q.booked
              ∙ get_or-set_other v₂ r k (m.join (get_or v₂ r m.none) (get_or v' i m.none)) m.none (omega arith)
              ∙ grown_values_other m.none v₁ c r k (omega (arith, x.high))
              ∙ get_or-set_other v' i k m.none m.none (omega arith)
              ∙ x.values k (omega arith);
          marked = subst (λ (ms : List ℕ). (k : ℕ) → k < i + 1 → (get_or ms k 0 < c') × (context s'' (get_or ms k 0) ≡ flat (context s k))) (sym q.noted)
              (below_more _ _
              (λ k l.
              let ne : k ≢ i = omega arith in
              let e : get_or (set marks i r) k 0 ≡ get_or marks k 0 = get_or-set_other marks i k r 0 ne in
              let p = x.marked k l in
              subst (λ j. (j < c') × (context s'' j ≡ flat (context s k))) (sym e) (omega (arith, p.0), old (get_or marks k 0) p.0 ∙ p.1))
              (subst (λ j. (j < c') × (context s'' j ≡ flat (context s i))) (sym (get_or-set_same marks i r 0 im)) (g.inside, is)));
          row = λ y.
              any_values m.none s'' v'' v₂ c' (same y) ∙ g.row y
              ∙ ap₂ (λ (u : List (Position × M)) p. any_of (same y) u || same y p) l₁ target
              ∙ ap (λ b. b || same y (flat (context s i))) (x.row y)
              ∙ or_comm (any_of (λ z. same y (flat z)) (listed m.none s v i)) (same y (flat (context s i)))
              ∙ ap (λ k. any_of (λ z. same y (flat z)) (listed m.none s v k)) (sym (add-one i));
          value = λ y.
              ap (λ u. joins m (same y) (listed m.none s'' u c')) q.booked
              ∙ joins_book laws s'' v₂ c' r (get_or v' i m.none) y g.inside (omega (arith, grown_values_long m.none v₁ c r, length-set v' i m.none))
              ∙ ap₂ (λ p j. cond (same y p) (m.join j (get_or v' i m.none)) j) is (g.value y ∙ ap (joins m (same y)) l₁ ∙ x.value y)
              ∙ turn (same y (flat (context s i))) (joins m (λ z. same y (flat z)) (listed m.none s v i)) (get_or v' i m.none) (get_or v i m.none) w
              ∙ ap (λ k. joins m (λ z. same y (flat z)) (listed m.none s v k)) (sym (add-one i));
        }
      where
        turn : (b : Bool) (j a d : M) → a ≡ d → cond b (m.join j a) j ≡ cond b (m.join d j) j
        turn true j a d e = ap (m.join j) e ∙ laws.comm j d
        turn false j a d e = refl

-- ---- the tree
below_flags : {M : Type 0} (l : ℕ) (rows : List (Position × M)) → Below l rows → Below l (flags rows)
unfolding flags
below_flags l [] h = tt
below_flags l (r ∷ rows) h = (h.0, below_flags l rows h.1)

module _ {M : Type 0} {m : Measure M} (laws : Laws m) (s s' : List Shape) (v v' : List M) (marks : List ℕ) (n top cur c : ℕ) (o : Sound s n top cur) (x : Flattening m s s' v v' marks c n) where
  below_listed : (k : ℕ) → k ≤ n → Below (context s cur).level (listed m.none s v k)
  below_listed zero h = tt
  below_listed (suc k) h = (omega (arith, level_low s n top o.table k (omega arith), o.here), below_listed k (omega arith))

  pub flat_finished : (strays opened : ℕ) → strays ≡ top → opened ≡ (get_or s cur blank).depth → tree_reading m s' v' c strays opened ≡ finished m (reading m s v n cur)
  flat_finished strays opened es eo = λ i. record {
    strays = (es ∙ sym o.here) i;
    opened = (eo ∙ sym (depth_is s cur)) i;
    row = fun_ext (λ q.
        x.row (at 0 q)
        ∙ any_flags (λ y. same_path q y.path) (listed m.none s v n)
        ∙ sym (levels_rows calling_laws (context s cur).level q (flags (listed m.none s v n)) (below_flags _ _ (below_listed n (omega arith))))
        ∙ ap (over calling (context s cur).level) (fun_ext (λ j. sym (any_flags (same (at j q)) (listed m.none s v n))))) i;
    value = fun_ext (λ q.
        x.value (at 0 q)
        ∙ sym (levels_rows laws (context s cur).level q (listed m.none s v n) (below_listed n (omega arith)))) i;
  }
