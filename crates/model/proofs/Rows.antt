-- Which rows there are: the other half of the join. Assumes nothing.
use Rattle.std.proofs.Common.{◌≡◌, ℕ, zero, suc, ◌+◌, ◌-◌, ◌≤◌, Bool, true, false, cond, ◌||◌, leb, ◌⊎◌, List, [], ◌∷◌, ◌++◌, length, drop, sym, refl, ap, ◌∙◌, subst, ap₂, inl, inr, ⊎_elim, arith}
use mathlib.Core.Bool.{or_assoc, or_comm}
use lib.Seq.{drop-nil}
use Rattle.std.proofs.lemmas.List.{drop_all}
use Rattle.std.proofs.lemmas.Bool.{cases_lt, both_ways, and_parts, and_from, or_cases, or_left, or_right, leb-true, le-leb, cond-true}
use Rattle.trace.specs.declared.record.Record.{Record}
use Rattle.trace.specs.declared.record.Record.TheVariants.{Call, Return, Unwind, Sample}
use Rattle.model.specs.Positions.{Path, Position, at, start, returned, unwound, move, ends, same, same_path, moved}
use Rattle.metrics.specs.Measures.{Laws}
use Rattle.metrics.specs.Joins.{joins, over, calling}
use Rattle.model.specs.Summaries.{booking, bookings, value_at, rooted, source, meeting}
use Rattle.model.proofs.Moves.{same_refl, same_true, same_path_true, source_of, source_level, ends_append, moved_start, moved_ends}
use Rattle.model.proofs.Totals.{over_same, joins_append, over_join}
use Rattle.model.proofs.Meeting.{value_append}

pub calling_laws : Laws calling
calling_laws = record { assoc = or_assoc; comm = or_comm; unit = λ b. refl }

pub alike : (a b : Bool) → (a ≡ true → b ≡ true) → (b ≡ true → a ≡ true) → a ≡ b
alike true b f g = sym (f refl)
alike false true f g = g refl
alike false false f g = refl

-- some of the levels
pub over_some : (n : ℕ) (t : ℕ → Bool) → over calling n t ≡ true → (j : ℕ) × (t j ≡ true)
over_some zero t e = (0, e)
over_some (suc n) t e = ⊎_elim (over_some n t) (λ h. (suc n, h)) (or_cases (over calling n t) (t (suc n)) e)

pub over_from : (n : ℕ) (t : ℕ → Bool) (j : ℕ) → j ≤ n → t j ≡ true → over calling n t ≡ true
over_from zero t j h e = ap t (omega arith) ∙ e
over_from (suc n) t j h e =
    ⊎_elim
    (λ l. or_left (over calling n t) (t (suc n)) (over_from n t j (omega arith) e))
    (λ l. or_right (over calling n t) (t (suc n)) (ap t (omega arith) ∙ e))
    (cases_lt j (suc n))

meeting_some : (e y : Position) (f : Position → Bool) → meeting calling e f y ≡ true → (x : Position) × (y ≡ moved e x) × (f x ≡ true)
meeting_some e y f h =
    let some = over_some (length e.path + y.level) (λ j. cond (same y (moved e (source e y j))) (f (source e y j)) false) h in
    let x : Position = source e y some.0 in
    go x (same y (moved e x)) refl some.1
  where
    go : (x : Position) (b : Bool) → same y (moved e x) ≡ b → cond b (f x) false ≡ true → (x : Position) × (y ≡ moved e x) × (f x ≡ true)
    go x true p q = (x, same_true y (moved e x) p, q)
    go x false p q = absurd (both_ways false refl q)

meeting_from : (e x : Position) (f : Position → Bool) → f x ≡ true → meeting calling e f (moved e x) ≡ true
meeting_from e x f h =
    let y : Position = moved e x in
    over_from _ (λ j. cond (same y (moved e (source e y j))) (f (source e y j)) false) x.level (source_level e x)
    (cond-true _ _ _ (ap (λ z. same y (moved e z)) (source_of e x) ∙ same_refl y) ∙ ap f (source_of e x) ∙ h)

meeting_or : (e y : Position) (f g : Position → Bool) → meeting calling e (λ x. f x || g x) y ≡ (meeting calling e f y || meeting calling e g y)
meeting_or e y f g =
    let n : ℕ = length e.path + y.level in
    let part : (Position → Bool) → ℕ → Bool = λ h j. cond (same y (moved e (source e y j))) (h (source e y j)) false in
    over_same calling n _ _ (λ j. go (same y (moved e (source e y j))) (source e y j)) ∙ over_join calling_laws n (part f) (part g)
  where
    go : (b : Bool) (x : Position) → cond b (f x || g x) false ≡ (cond b (f x) false || cond b (g x) false)
    go true x = refl
    go false x = refl

-- Each front of the open path is empty, or a call's context, or was open at the start.
abbrev pub Tail : Position → Position → Type 0
Tail p z = (k : ℕ) × (z ≡ at p.level (drop k p.path))

returned_tail : (l : ℕ) (q : Path) (k : ℕ) → (drop k (returned l q).path ≡ []) ⊎ Tail (at l q) (at (returned l q).level (drop k (returned l q).path))
returned_tail l [] k = inl (drop-nil k)
returned_tail l (f ∷ q) k = inr (suc k, refl)

unwound_tail : (n : ℕ) (p : Position) (k : ℕ) → (drop k (unwound n p).path ≡ []) ⊎ Tail p (at (unwound n p).level (drop k (unwound n p).path))
unwound_tail zero p k = inr (k, refl)
unwound_tail (suc n) p k =
    let r : Position = returned p.level p.path in
    ⊎_elim inl
    (λ t. ⊎_elim (λ none. inl (ap (λ z. z.path) t.1 ∙ none)) (λ u. inr (u.0, t.1 ∙ u.1)) (returned_tail p.level p.path t.0))
    (unwound_tail n r k)

abbrev pub Known : Position → List (Position × Bool) → Position → Type 0
Known p rows z = (z.path ≡ []) ⊎ ((joins calling (same z) rows ≡ true) ⊎ Tail p z)

pub move_known : (p : Position) (r : Record) (k : ℕ) → Known p (booking calling p r) (at (move p r).level (drop k (move p r).path))
move_known p (Call f) zero = inr (inl (cond-true _ _ _ (same_refl (move p (Call f)))))
move_known p (Call f) (suc k) = inr (inr (k, refl))
move_known p Return k = ⊎_elim inl (λ t. inr (inr t)) (returned_tail p.level p.path k)
move_known p (Unwind n) k = ⊎_elim inl (λ t. inr (inr t)) (unwound_tail n p k)
move_known p (Sample s) k = inr (inr (k, refl))

pub joined_known : (p : Position) (rows more : List (Position × Bool)) (z : Position) → Known p rows z → Known p (rows ++ more) z
joined_known p rows more z =
    ⊎_elim inl (⊎_elim (λ c. inr (inl (joins_append calling_laws (same z) rows more ∙ or_left _ _ c))) (λ t. inr (inr t)))

pub open_known : (p : Position) (xs : List Record) (k : ℕ) → Known p (bookings calling p xs) (at (ends p xs).level (drop k (ends p xs).path))
open_known p [] k = inr (inr (k, refl))
open_known p (x ∷ xs) k =
    let z : Position = at (ends (move p x) xs).level (drop k (ends (move p x) xs).path) in
    let rows = booking calling p x in
    let more = bookings calling (move p x) xs in
    ⊎_elim inl
    (⊎_elim
    (λ c. inr (inl (joins_append calling_laws (same z) rows more ∙ or_right (joins calling (same z) rows) _ c)))
    (λ t. subst (Known p (rows ++ more)) (sym t.1) (joined_known p rows more _ (move_known p x t.0))))
    (open_known (move p x) xs k)

-- so the open path and what stays of it after returns has a row
pub open_row : (xs : List Record) (k : ℕ) (z : Position) → z ≡ at (ends start xs).level (drop k (ends start xs).path) → (z.path ≡ []) ⊎ (value_at calling start xs z ≡ true)
open_row xs k z is =
    subst (λ (z : Position). (z.path ≡ []) ⊎ (value_at calling start xs z ≡ true)) (sym is)
    (⊎_elim inl (⊎_elim inr (λ t. inl (ap (λ z. z.path) t.1 ∙ drop-nil t.0))) (open_known start xs k))

-- the rows with the empty path
pub rooted_parts : (l : ℕ) (x : Position) → rooted l x ≡ true → (x.path ≡ []) × (x.level ≤ l)
rooted_parts l x h =
    let both = and_parts (same_path x.path []) (leb x.level l) h in
    (same_path_true x.path [] both.0, leb-true x.level l both.1)

pub rooted_from : (l : ℕ) (x : Position) → x.path ≡ [] → x.level ≤ l → rooted l x ≡ true
rooted_from l x e h = and_from _ _ (ap (λ q. same_path q []) e) (le-leb x.level l h)

module _ (xs : List Record) (b : Position) (y : Position) where
  abbrev e : Position
  e = ends start xs

  roots_there : rooted (moved e b).level y ≡ true → (rooted e.level y || meeting calling e (rooted b.level) y) ≡ true
  roots_there h =
      let both = rooted_parts (moved e b).level y h in
      let low = both.1 in
      let x : Position = at (y.level - e.level + length e.path) [] in
      ⊎_elim
      (λ above. let to : moved e x ≡ y = ap₂ at (omega arith) (drop_all x.level e.path (omega arith) ∙ sym both.0) in
      or_right _ _ (subst (λ (z : Position). meeting calling e (rooted b.level) z ≡ true) to (meeting_from e x (rooted b.level) (rooted_from b.level x refl (omega arith)))))
      (λ below. or_left _ _ (rooted_from e.level y both.0 below))
      (cases_lt e.level y.level)

  roots_kept : rooted e.level y ≡ true → rooted (moved e b).level y ≡ true
  roots_kept h = let both = rooted_parts e.level y h in let low = both.1 in rooted_from _ y both.0 (omega arith)

  roots_back : meeting calling e (rooted b.level) y ≡ true → (rooted (moved e b).level y || value_at calling start xs y) ≡ true
  roots_back h =
      let some = meeting_some e y (rooted b.level) h in
      let x = some.0 in
      let both = rooted_parts b.level x some.2 in
      let low = both.1 in
      let way : y ≡ at (e.level + (x.level - length e.path)) (drop x.level e.path) = some.1 ∙ ap (λ q. at (e.level + (x.level - length e.path)) (q ++ drop x.level e.path)) both.0 in
      ⊎_elim
      (λ short. ⊎_elim
      (λ none. or_left _ _ (rooted_from _ y none (subst (λ (z : Position). z.level ≤ (moved e b).level) (sym way) (omega arith))))
      (λ c. or_right _ _ c)
      (open_row xs x.level y (way ∙ ap (λ n. at n (drop x.level e.path)) (omega arith))))
      (λ long. or_left _ _ (rooted_from _ y (ap (λ z. z.path) way ∙ drop_all x.level e.path long) (subst (λ (z : Position). z.level ≤ (moved e b).level) (sym way) (omega arith))))
      (cases_lt x.level (length e.path))

  roots : (rooted (moved e b).level y || value_at calling start xs y) ≡ ((rooted e.level y || value_at calling start xs y) || meeting calling e (rooted b.level) y)
  roots = alike _ _
      (λ h. ⊎_elim
      (λ r. ⊎_elim (λ ra. or_left _ _ (or_left _ _ ra)) (λ mb. or_right (rooted e.level y || value_at calling start xs y) _ mb) (or_cases _ _ (roots_there r)))
      (λ c. or_left _ _ (or_right (rooted e.level y) _ c))
      (or_cases _ _ h))
      (λ h. ⊎_elim
      (λ l. ⊎_elim (λ ra. or_left _ _ (roots_kept ra)) (λ c. or_right (rooted (moved e b).level y) _ c) (or_cases _ _ l))
      roots_back
      (or_cases _ _ h))

pub row_append : (xs ys : List Record) (y : Position) →
    (rooted (ends start (xs ++ ys)).level y || value_at calling start (xs ++ ys) y)
    ≡ ((rooted (ends start xs).level y || value_at calling start xs y) || meeting calling (ends start xs) (λ x. rooted (ends start ys).level x || value_at calling start ys x) y)
row_append xs ys y =
    let e : Position = ends start xs in
    let b : Position = ends start ys in
    let all : ends start (xs ++ ys) ≡ moved e b = ends_append start xs ys ∙ ap (λ q. ends q ys) (sym (moved_start e)) ∙ moved_ends e start ys in
    let c : Bool = value_at calling start xs y in
    let k : Bool = meeting calling e (value_at calling start ys) y in
    ap₂ (λ q w. rooted q.level y || w) all (value_append calling_laws xs ys y)
    ∙ sym (or_assoc (rooted (moved e b).level y) c k)
    ∙ ap (λ w. w || k) (roots xs b y)
    ∙ or_assoc (rooted e.level y || c) (meeting calling e (rooted b.level) y) k
    ∙ ap (λ w. (rooted e.level y || c) || w) (sym (meeting_or e y (rooted b.level) (value_at calling start ys)))
