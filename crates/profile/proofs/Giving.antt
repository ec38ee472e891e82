-- The answers to one record. Assumes nothing.
use Rattle.std.proofs.Common.{◌≡◌, ℕ, zero, suc, ◌+◌, ◌-◌, ◌<◌, ◌≤◌, max, true, List, [], ◌∷◌, length, get_or, set, Ok, Err, sym, refl, ap, ◌∙◌, subst, ap₂, ⊎_elim, add-one, arith, length-set}
use Rattle.std.proofs.lemmas.Bool.{cases_lt, cond-true, cond-false, lt-ltb, le-ltb, leb-true, and_parts}
use Rattle.trace.specs.declared.record.Record.{Record}
use Rattle.trace.specs.declared.record.Record.TheVariants.{Call, Return, Unwind}
use Rattle.rows.specs.declared.rejection.Rejection.{Rejection}
use Rattle.rows.specs.declared.rejection.Rejection.TheVariants.{OutOfRange, TableSize, TooFewRows, PathTooLong}
use Rattle.model.specs.Positions.{Path, Position, at, same, returned, unwound, move}
use Rattle.metrics.specs.Measures.{Measure, Laws}
use Rattle.model.specs.Summaries.{Summary, any_of, added}
use Rattle.rows.specs.declared.row.Shape.{Shape}
use Rattle.rows.specs.Shapes.{blank, root}
use Rattle.rows.specs.Sound.{Sound}
use Rattle.rows.specs.Index.{Found}
use Rattle.rows.specs.Steps.{Entered, Refused, grownValues}
use Rattle.rows.specs.Reading.{context, listed, reading}
use Rattle.rows.specs.Gains.{Gains}
use Rattle.trace.specs.Ranges.{InRange}
use Rattle.profile.specs.Given.{Held, need, step, Accepts, Refuses, Given}
use Rattle.rows.proofs.Readings.{context_child, depth_is, any_at}
use Rattle.rows.proofs.Bridge.{gains_reached, gains_root, none_there, called, returned_child, returned_root, unwinds_more}

pub held_path : {M : Type 0} (a b : Held M) → a.is ≡ b.is → a.count ≡ b.count → a.room ≡ b.room → a ≡ b
held_path a b e f g = λ i. record { is = e i; count = f i; room = g i }

-- what an accepted record leaves, part by part
pub record Taken {M : Type 0} (m : Measure M) (a b : Held M) (r : Record) : Type 0 where
  pub ranged : InRange r
  pub shallow : length (move a.is.end r).path ≤ 512
  pub fits : a.count + need a.is r ≤ a.room
  pub is : b.is ≡ added m a.is r
  pub count : b.count ≡ a.count + need a.is r
  pub room : b.room ≡ a.room

pub taken : {M : Type 0} {m : Measure M} (a b : Held M) (r : Record) → Taken m a b r → Accepts a r × (b ≡ step m a r)
taken {M} {m} a b r t = (record { ranged = t.ranged; shallow = t.shallow; fits = t.fits }, held_path b (step m a r) t.is t.count t.room)

abbrev pub held : {M : Type 0} → Measure M → List Shape → List M → ℕ → ℕ → ℕ → Held M
held m s v n cur room = record { is = reading m s v n cur; count = n; room = room }

module _ {M : Type 0} {m : Measure M} (laws : Laws m) (s : List Shape) (v : List M) (n top cur : ℕ) (o : Sound s n top cur) (lv : length v ≡ length s) where
  path_long : length (context s cur).path ≡ (get_or s cur blank).depth
  path_long = depth_is s cur

  pub path_low : length (context s cur).path ≤ 512
  path_low = omega (arith, path_long, (o.table.good cur o.opened).depth)

  -- ---- a call
  module _ (f : ℕ) (ranged : InRange (Call f)) where
    named : 0 < f
    named = omega (arith, leb-true 1 f (and_parts _ _ ranged).0)

    found_there : (c : ℕ) → Found s n cur f c → c < n → any_of (same (at (context s cur).level (f ∷ (context s cur).path))) (listed m.none s v n) ≡ true
    found_there c found l =
        let pa = found.is_parent l in
        let fn = found.is_function l in
        let is : context s c ≡ at (context s cur).level (f ∷ (context s cur).path) = context_child s n top o.table c l (omega (arith, fn, named)) ∙ ap₂ (λ p g. at (context s p).level (g ∷ (context s p).path)) pa fn in
        subst (λ y. any_of (same y) (listed m.none s v n) ≡ true) is (any_at m.none s v n c l)

    module _ (s' : List Shape) (v' : List M) (c n' : ℕ) (e : Entered m.none m.join m.of_call s s' v v' n cur f c) (em : n' ≡ max n (c + 1)) where
      gains : Gains m s s' v (grownValues m.none v n c) n n' top top c (at (context s cur).level (f ∷ (context s cur).path))
      gains = rw em (gains_reached laws s v n top o.table s' (grownValues m.none v n c) cur f c o.opened named lv (record { found = e.found; shallow = e.shallow; room = e.room; shapes = e.shapes; values = refl }))

      pub call_sound : Sound s' n' top c
      call_sound = record { table = gains.table; opened = gains.inside; here = ap (λ (x : Position). x.level) gains.is ∙ o.here }

      long_grown : length (grownValues m.none v n c) ≡ length v
      long_grown = ⊎_elim
          (λ (l : c < n). ap length (cond-true _ _ _ (lt-ltb c n l)))
          (λ (l : n ≤ c). ap length (cond-false _ _ _ (le-ltb c n l)) ∙ length-set v n m.none)
          (cases_lt c n)

      call_need : (n' ≡ n + need (reading m s v n cur) (Call f)) × (n + need (reading m s v n cur) (Call f) ≤ length s)
      call_need = ⊎_elim
          (λ (l : c < n).
          let z : need (reading m s v n cur) (Call f) ≡ 0 = cond-true _ _ _ (found_there c e.found l) in
          (omega arith, omega (arith, o.table.fits)))
          (λ (l : n ≤ c).
          let z : need (reading m s v n cur) (Call f) ≡ 1 = cond-false _ _ _ (none_there laws s v n top o.table cur f o.opened (e.found.absent l)) in
          (omega (arith, e.found.within), omega (arith, e.found.within, e.room)))
          (cases_lt c n)

      pub call_taken : (room room' : ℕ) → room ≡ length s → room' ≡ room → Taken m (held m s v n cur room) (held m s' v' n' c room') (Call f)
      call_taken room room' er er' = record {
        ranged = ranged;
        shallow = omega (arith, path_long, e.shallow);
        fits = omega (arith, call_need.1);
        is = called laws s v n top cur o s' (grownValues m.none v n c) v' n' f c gains (omega (arith, long_grown, e.room)) e.values;
        count = call_need.0;
        room = er';
      }

    pub call_refused : (room : ℕ) (w : Rejection) → room ≡ length s → Refused s n cur f w → Refuses (held m s v n cur room) (Call f) w
    call_refused room OutOfRange er r = absurd r
    call_refused room TableSize er r = absurd r
    call_refused room PathTooLong er r = (ranged, omega (arith, path_long, r))
    call_refused room TooFewRows er r =
        let z : need (reading m s v n cur) (Call f) ≡ 1 = cond-false _ _ _ (none_there laws s v n top o.table cur f o.opened r.2) in
        (ranged, omega (arith, path_long, r.0), omega (arith, r.1))

  -- ---- a return
  pub child_sound : 0 < (get_or s cur blank).function → Sound s n top (get_or s cur blank).parent
  child_sound f =
      let k = (o.table.good cur o.opened).child f in
      record { table = o.table; opened = omega (arith, k.parent, o.opened); here = sym k.level ∙ o.here }

  pub child_taken : (room : ℕ) → room ≡ length s → 0 < (get_or s cur blank).function → Taken m (held m s v n cur room) (held m s v n (get_or s cur blank).parent room) Return
  child_taken room er f =
      let k = (o.table.good cur o.opened).child f in
      let is = returned_child laws s v n top cur o f in
      let low : (get_or s (get_or s cur blank).parent blank).depth ≤ 512 = omega (arith, k.depth, (o.table.good cur o.opened).depth) in
      record {
        ranged = refl;
        shallow = omega (arith, depth_is s (get_or s cur blank).parent, ap (λ (a : Summary M). length a.end.path) is);
        fits = omega (arith, o.table.fits, path_long, k.depth);
        is = is;
        count = omega (arith, path_long, k.depth);
        room = refl;
      }

  module _ (z : (get_or s cur blank).function ≡ 0) where
    root_long : length (context s cur).path ≡ 0
    root_long = path_long ∙ ((o.table.good cur o.opened).root z).depth

    pub root_sound : n < length s → (s' : List Shape) → s' ≡ set s n (root (top + 1) n) → Sound s' (n + 1) (top + 1) n
    root_sound room s' e =
        let g = gains_root laws s v n top o.table lv room in
        rw e (record { table = g.table; opened = g.inside; here = ap (λ (x : Position). x.level) g.is })

    pub root_taken : (room room' : ℕ) → room ≡ length s → room' ≡ room → n < length s → (s' : List Shape) (v' : List M) → s' ≡ set s n (root (top + 1) n) → v' ≡ set v n m.none → Taken m (held m s v n cur room) (held m s' v' (n + 1) n room') Return
    root_taken room room' er er' h s' v' es ev =
        let g = gains_root laws s v n top o.table lv h in
        let is : reading m s' v' (n + 1) n ≡ added m (reading m s v n cur) Return = rw (es, ev) (returned_root laws s v n top cur o (set s n (root (top + 1) n)) (set v n m.none) z g) in
        let p : (reading m (set s n (root (top + 1) n)) (set v n m.none) (n + 1) n).end ≡ at (top + 1) [] = g.is in
        let q = returned_root laws s v n top cur o (set s n (root (top + 1) n)) (set v n m.none) z g in
        record {
          ranged = refl;
          shallow = omega (arith, ap (λ (x : Position). length x.path) p, ap (λ (a : Summary M). length a.end.path) q);
          fits = omega (arith, root_long);
          is = is;
          count = omega (arith, root_long);
          room = er';
        }

    pub root_refused : (room : ℕ) → room ≡ length s → length s ≤ n → Refuses (held m s v n cur room) Return TooFewRows
    root_refused room er h =
        (refl, omega (arith, short (context s cur).path (context s cur).level root_long), omega (arith, root_long))
      where
        short : (q : Path) (l : ℕ) → length q ≡ 0 → length (returned l q).path ≡ 0
        short [] l e = refl
        short (f ∷ q) l e = absurd (omega arith)

-- ---- an unwind
pub unwound_long : (n : ℕ) (p : Position) → length (unwound n p).path ≡ length p.path - n
unwound_long zero p = omega arith
unwound_long (suc n) p = unwound_long n (returned p.level p.path) ∙ one p.path
  where
    one : (q : Path) → length (returned p.level q).path - n ≡ length q - suc n
    one [] = omega arith
    one (f ∷ q) = omega arith

-- after i returns
pub record Along {M : Type 0} (m : Measure M) (a b : Held M) (i : ℕ) : Type 0 where
  pub is : b.is ≡ added m a.is (Unwind i)
  pub count : b.count ≡ a.count + (i - length a.is.end.path)
  pub room : b.room ≡ a.room

module _ {M : Type 0} (m : Measure M) (a : Held M) (k : ℕ) (low : length a.is.end.path ≤ 512) (fits : a.count + (k - length a.is.end.path) ≤ a.room) where
  pub along : (i : ℕ) (b c : Held M) → i < k → Along m a b i → Given m b c Return (Ok tt) → Along m a c (i + 1)
  along i b c h w g =
      let l : length b.is.end.path ≡ length a.is.end.path - i = ap (λ (x : Summary M). length x.end.path) w.is ∙ unwound_long i a.is.end in
      record {
        is = ap (λ (x : Held M). x.is) g.1 ∙ ap (λ x. added m x Return) w.is ∙ unwinds_more m a.is i ∙ ap (λ j. added m a.is (Unwind j)) (sym (add-one i));
        count = omega (arith, ap (λ (x : Held M). x.count) g.1, w.count, l);
        room = ap (λ (x : Held M). x.room) g.1 ∙ w.room;
      }

  -- there is room for each of the returns
  pub never : (i : ℕ) (b c : Held M) (e : Rejection) → i < k → Along m a b i → Given m b c Return (Err e) → ⊥
  never i b c OutOfRange h w g = g.1 refl
  never i b c TableSize h w g = g.1
  never i b c PathTooLong h w g =
      let l : length b.is.end.path ≡ length a.is.end.path - i = ap (λ (x : Summary M). length x.end.path) w.is ∙ unwound_long i a.is.end in
      omega (arith, g.1.1, l, unwound_long 1 b.is.end)
  never i b c TooFewRows h w g =
      let l : length b.is.end.path ≡ length a.is.end.path - i = ap (λ (x : Summary M). length x.end.path) w.is ∙ unwound_long i a.is.end in
      omega (arith, g.1.2, w.count, w.room, l)
