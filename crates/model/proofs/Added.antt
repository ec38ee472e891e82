-- One record more, and the join by rows. Assumes nothing.
use Rattle.std.proofs.Common.{◌≡◌, ℕ, ◌≤◌, Bool, true, false, cond, ◌||◌, List, [], ◌∷◌, ◌++◌, sym, refl, ap, ◌∙◌, ap₂, ⊎_elim, le_trans}
use mathlib.Core.Path.{fun_ext}
use mathlib.Core.Bool.{or_assoc, or-false}
use Rattle.std.proofs.lemmas.Bool.{or_cases, or_left, or_right}
use Rattle.trace.specs.declared.record.Record.{Record}
use Rattle.trace.specs.declared.record.Record.TheVariants.{Call, Return, Unwind, Sample}
use Rattle.model.specs.Positions.{Position, start, move, ends, same, moved}
use Rattle.metrics.specs.Measures.{Measure, Laws}
use Rattle.metrics.specs.Joins.{joins, calling}
use Rattle.model.specs.Summaries.{summary, booking, bookings, value_at, rooted, added, Adds, any_of, JoinsRows, meeting}
use Rattle.model.proofs.Moves.{ends_append}
use Rattle.model.proofs.Totals.{unit_right, joins_append}
use Rattle.model.proofs.Meeting.{bookings_append, meeting_rows}
use Rattle.model.proofs.Rows.{calling_laws, alike, rooted_parts, rooted_from}
use Rattle.model.proofs.Trees.{move_up}

module _ {M : Type 0} {m : Measure M} (laws : Laws m) where
  value_more : (xs : List Record) (r : Record) (x : Position) → value_at m start (xs ++ (r ∷ [])) x ≡ m.join (value_at m start xs x) (joins m (same x) (booking m (ends start xs) r ++ []))
  value_more xs r x = ap (joins m (same x)) (bookings_append m start xs (r ∷ [])) ∙ joins_append laws (same x) (bookings m start xs) (bookings m (ends start xs) (r ∷ []))

  lone : (b : Bool) (a v : M) → m.join a (cond b (m.join v m.none) m.none) ≡ cond b (m.join a v) a
  lone true a v = ap (m.join a) (unit_right laws v)
  lone false a v = unit_right laws a

-- rows with the empty path up to l, and then up to n
rooted_more : (l n : ℕ) (x : Position) (c : Bool) → l ≤ n → (rooted n x || c) ≡ ((rooted l x || c) || rooted n x)
rooted_more l n x c h = alike _ _
    (λ t. ⊎_elim (λ r. or_right (rooted l x || c) _ r) (λ k. or_left _ _ (or_right (rooted l x) _ k)) (or_cases _ _ t))
    (λ t. ⊎_elim
    (λ s. ⊎_elim (λ r. let both = rooted_parts l x r in or_left _ _ (rooted_from n x both.0 (le_trans both.1 h))) (λ k. or_right (rooted n x) _ k) (or_cases _ _ s))
    (λ r. or_left _ _ r)
    (or_cases _ _ t))

flag : (b : Bool) → cond b true false ≡ b
flag true = refl
flag false = refl

off : (b : Bool) → cond b false false ≡ false
off true = refl
off false = refl

module _ {M : Type 0} {m : Measure M} (laws : Laws m) (xs : List Record) where
  abbrev e : Position
  e = ends start xs

  called : Position → Bool
  called x = value_at calling start xs x

  row_by : (r : Record) (x : Position) → (rooted (ends start (xs ++ (r ∷ []))).level x || value_at calling start (xs ++ (r ∷ [])) x) ≡ (rooted (move e r).level x || (value_at calling start xs x || joins calling (same x) (booking calling e r ++ [])))
  row_by r x = ap₂ (λ p w. rooted p.level x || w) (ends_append start xs (r ∷ [])) (value_more calling_laws xs r x)

  row_kept : (r : Record) (x : Position) (b : Bool) → joins calling (same x) (booking calling e r ++ []) ≡ b → (rooted (ends start (xs ++ (r ∷ []))).level x || value_at calling start (xs ++ (r ∷ [])) x) ≡ ((rooted (move e r).level x || value_at calling start xs x) || b)
  row_kept r x b h = row_by r x ∙ sym (or_assoc (rooted (move e r).level x) (value_at calling start xs x) _) ∙ ap (λ w. (rooted (move e r).level x || value_at calling start xs x) || w) h

  row_up : (r : Record) (x : Position) → joins calling (same x) (booking calling e r ++ []) ≡ false → (rooted (ends start (xs ++ (r ∷ []))).level x || value_at calling start (xs ++ (r ∷ [])) x) ≡ ((rooted e.level x || value_at calling start xs x) || rooted (move e r).level x)
  row_up r x h = row_kept r x false h ∙ or-false _ ∙ rooted_more e.level (move e r).level x (value_at calling start xs x) (move_up e r)

  pub adds_one : (r : Record) → summary m (xs ++ (r ∷ [])) ≡ added m (summary m xs) r
  adds_one (Call f) = λ i. record {
    end = ends_append start xs (Call f ∷ []) i;
    row = fun_ext (λ x. row_kept (Call f) x (same x (move e (Call f))) (flag _)) i;
    value = fun_ext (λ x. value_more laws xs (Call f) x ∙ lone laws (same x (move e (Call f))) _ m.of_call) i;
  }
  adds_one Return = λ i. record {
    end = ends_append start xs (Return ∷ []) i;
    row = fun_ext (λ x. row_up Return x refl) i;
    value = fun_ext (λ x. value_more laws xs Return x ∙ unit_right laws _) i;
  }
  adds_one (Unwind n) = λ i. record {
    end = ends_append start xs (Unwind n ∷ []) i;
    row = fun_ext (λ x. row_up (Unwind n) x refl) i;
    value = fun_ext (λ x. value_more laws xs (Unwind n) x ∙ unit_right laws _) i;
  }
  adds_one (Sample s) = λ i. record {
    end = ends_append start xs (Sample s ∷ []) i;
    row = fun_ext (λ x. row_kept (Sample s) x false (off _) ∙ or-false _) i;
    value = fun_ext (λ x. value_more laws xs (Sample s) x ∙ lone laws (same x e) _ (m.of_sample s)) i;
  }

pub adds_stand : {M : Type 0} {m : Measure M} → Laws m → Adds m
adds_stand laws xs r = adds_one laws xs r

-- each row as a call
unfoldable pub flags : {M : Type 0} → List (Position × M) → List (Position × Bool)
flags [] = []
flags (r ∷ rows) = (r.0, true) ∷ flags rows

pub any_flags : {M : Type 0} (test : Position → Bool) (rows : List (Position × M)) → any_of test rows ≡ joins calling test (flags rows)
unfolding flags
any_flags test [] = refl
any_flags test (r ∷ rows) = ap (λ w. test r.0 || w) (any_flags test rows) ∙ go (test r.0) _
  where
    go : (b c : Bool) → (b || c) ≡ cond b (true || c) c
    go true c = refl
    go false c = refl

meeting_same : {M : Type 0} (m : Measure M) (e y : Position) (v w : Position → M) → ((x : Position) → v x ≡ w x) → meeting m e v y ≡ meeting m e w y
meeting_same m e y v w h = ap (λ u. meeting m e u y) (fun_ext h)

pub rows_stand : {M : Type 0} {m : Measure M} → Laws m → JoinsRows m
rows_stand {m} laws a b rows shown = record {
  there = λ y. ap (λ w. a.row y || w)
      (meeting_same calling a.end y _ _ (λ x. sym (shown.there x) ∙ any_flags (same x) rows)
      ∙ meeting_rows calling_laws a.end y (flags rows)
      ∙ sym (any_flags (λ x. same y (moved a.end x)) rows));
  worth = λ y. ap (m.join (a.value y))
      (meeting_same m a.end y _ _ (λ x. sym (shown.worth x)) ∙ meeting_rows laws a.end y rows);
}
