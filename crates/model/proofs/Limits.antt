-- The number of rows does not depend on how they are listed. Assumes nothing.
use Rattle.std.proofs.Common.{◌≡◌, ℕ, zero, suc, ◌<◌, ◌≤◌, Bool, true, false, cond, not, ◌||◌, ltb, List, [], ◌∷◌, ◌++◌, length, sym, refl, ap, ◌∙◌, subst, ap₂, ⊎_elim, arith}
use mathlib.Core.Bool.{or_assoc}
use Rattle.std.proofs.lemmas.Bool.{cases_Bool, cases_lt, both_ways, or_cases, or_left, or_right, and_parts, not-true}
use Rattle.trace.specs.declared.record.Record.{Record}
use Rattle.trace.specs.declared.record.Record.TheVariants.{Call, Return, Unwind, Sample}
use Rattle.model.specs.Positions.{Position, at, start, move, ends, same}
use Rattle.metrics.specs.Measures.{Measure}
use Rattle.metrics.specs.Joins.{calling}
use Rattle.model.specs.Summaries.{value_at, rooted}
use Rattle.model.specs.Limits.{among, apart, lean, roots, calls_of, rows_of, long_one, Counted}
use Rattle.model.proofs.Moves.{same_true, same_refl}
use Rattle.model.proofs.Rows.{alike, rooted_parts, rooted_from}

-- the same as a type
abbrev Distinct : List Position → Type 0
Distinct [] = Unit {0}
Distinct (k ∷ ks) = (among ks k ≡ false) × Distinct ks

distinct : (ks : List Position) → apart ks ≡ true → Distinct ks
distinct [] h = tt
distinct (k ∷ ks) h = let both = and_parts (not (among ks k)) (apart ks) h in (not-true (among ks k) both.0, distinct ks both.1)

-- without k
less : Position → List Position → List Position
less k [] = []
less k (l ∷ ls) = cond (same k l) (less k ls) (l ∷ less k ls)

less_le : (k : Position) (ls : List Position) → length (less k ls) ≤ length ls
unfolding less
less_le k [] = omega arith
less_le k (l ∷ ls) = go (same k l) (less_le k ls)
  where
    go : (b : Bool) → length (less k ls) ≤ length ls → length (cond b (less k ls) (l ∷ less k ls)) ≤ suc (length ls)
    go true h = omega arith
    go false h = omega arith

less_lt : (k : Position) (ls : List Position) → among ls k ≡ true → length (less k ls) < length ls
unfolding less
less_lt k [] h = absurd (both_ways false refl h)
less_lt k (l ∷ ls) h = go (same k l) (less_le k ls) (less_lt k ls) h
  where
    go : (b : Bool) → length (less k ls) ≤ length ls → (among ls k ≡ true → length (less k ls) < length ls) → (b || among ls k) ≡ true → length (cond b (less k ls) (l ∷ less k ls)) < suc (length ls)
    go true h f e = omega arith
    go false h f e = let i = f e in omega arith

less_among : (k x : Position) (ls : List Position) → same x k ≡ false → among ls x ≡ true → among (less k ls) x ≡ true
unfolding less
less_among k x [] off h = h
less_among k x (l ∷ ls) off h =
    ⊎_elim
    (λ on. subst (λ (b : Bool). among (cond b (less k ls) (l ∷ less k ls)) x ≡ true) (sym on)
    (⊎_elim (λ is. absurd (both_ways _ off (ap (same x) (same_true k l on) ∙ is))) (less_among k x ls off) (or_cases (same x l) (among ls x) h)))
    (λ not. subst (λ (b : Bool). among (cond b (less k ls) (l ∷ less k ls)) x ≡ true) (sym not)
    (⊎_elim (or_left _ _) (λ later. or_right (same x l) _ (less_among k x ls off later)) (or_cases (same x l) (among ls x) h)))
    (cases_Bool (same k l))

within : (ks ls : List Position) → Distinct ks → ((x : Position) → among ks x ≡ true → among ls x ≡ true) → length ks ≤ length ls
within [] ls d h = omega arith
within (k ∷ ks) ls d h =
    let fewer = less_lt k ls (h k (or_left _ _ (same_refl k))) in
    let rest = within ks (less k ls) d.1 (λ x e.
    ⊎_elim
    (λ is. absurd (both_ways _ d.0 (ap (among ks) (sym (same_true x k is)) ∙ e)))
    (λ isnt. less_among k x ls isnt (h x (or_right (same x k) _ e)))
    (cases_Bool (same x k))) in
    omega arith

long_some : (ks : List Position) → long_one ks ≡ true → (x : Position) × (among ks x ≡ true) × (ltb 512 (length x.path) ≡ true)
long_some [] h = absurd (both_ways false refl h)
long_some (k ∷ ks) h =
    ⊎_elim
    (λ l. (k, or_left _ _ (same_refl k), l))
    (λ l. let s = long_some ks l in (s.0, or_right (same s.0 k) _ s.1, s.2))
    (or_cases (ltb 512 (length k.path)) (long_one ks) h)

long_from : (ks : List Position) (x : Position) → among ks x ≡ true → ltb 512 (length x.path) ≡ true → long_one ks ≡ true
long_from [] x h l = h
long_from (k ∷ ks) x h l =
    ⊎_elim
    (λ is. or_left _ _ (ap (λ z. ltb 512 (length z.path)) (sym (same_true x k is)) ∙ l))
    (λ later. or_right (ltb 512 (length k.path)) _ (long_from ks x later l))
    (or_cases (same x k) (among ks x) h)

same_count : (ks ls : List Position) → Distinct ks → Distinct ls → ((x : Position) → among ks x ≡ among ls x) → (length ks ≡ length ls) × (long_one ks ≡ long_one ls)
same_count ks ls d e h =
    let there = within ks ls d (λ x t. sym (h x) ∙ t) in
    let back = within ls ks e (λ x t. h x ∙ t) in (
      omega arith,
      alike _ _ (λ t. let s = long_some ks t in long_from ls s.0 (sym (h s.0) ∙ s.1) s.2) (λ t. let s = long_some ls t in long_from ks s.0 (h s.0 ∙ s.1) s.2),
    )

lean_among : (ks : List Position) (x : Position) → among (lean ks) x ≡ among ks x
lean_among [] x = refl
lean_among (k ∷ ks) x =
    ⊎_elim
    (λ on. ap (λ (b : Bool). among (cond b (lean ks) (k ∷ lean ks)) x) on ∙ lean_among ks x
    ∙ alike _ _ (or_right (same x k) (among ks x)) (λ t. ⊎_elim (λ is. ap (among ks) (same_true x k is) ∙ on) (λ l. l) (or_cases (same x k) (among ks x) t)))
    (λ off. ap (λ (b : Bool). among (cond b (lean ks) (k ∷ lean ks)) x) off ∙ ap (λ w. same x k || w) (lean_among ks x))
    (cases_Bool (among ks k))

lean_distinct : (ks : List Position) → Distinct (lean ks)
lean_distinct [] = tt
lean_distinct (k ∷ ks) =
    ⊎_elim
    (λ on. subst (λ (b : Bool). Distinct (cond b (lean ks) (k ∷ lean ks))) (sym on) (lean_distinct ks))
    (λ off. subst (λ (b : Bool). Distinct (cond b (lean ks) (k ∷ lean ks))) (sym off) (lean_among ks k ∙ off, lean_distinct ks))
    (cases_Bool (among ks k))

among_append : (ks ls : List Position) (x : Position) → among (ks ++ ls) x ≡ (among ks x || among ls x)
among_append [] ls x = refl
among_append (k ∷ ks) ls x = ap (λ w. same x k || w) (among_append ks ls x) ∙ sym (or_assoc (same x k) (among ks x) (among ls x))

root_here : (l : ℕ) (x : Position) → same x (at l []) ≡ true → rooted l x ≡ true
root_here l x h = let e = same_true x (at l []) h in rooted_from l x (ap (λ z. z.path) e) (subst (λ (z : Position). z.level ≤ l) (sym e) (omega arith))

roots_among : (l : ℕ) (x : Position) → among (roots l) x ≡ rooted l x
roots_among zero x = alike _ _
    (λ t. ⊎_elim (root_here 0 x) (λ f. absurd (both_ways false refl f)) (or_cases (same x (at 0 [])) false t))
    (λ t. let both = rooted_parts 0 x t in let low = both.1 in
    let is : x ≡ at 0 [] = ap₂ at {x = x.level} {y = 0} (omega arith) both.0 in
    or_left _ _ (ap (λ z. same z (at 0 [])) is ∙ same_refl (at 0 [])))
roots_among (suc l) x = alike _ _
    (λ t. ⊎_elim (root_here (suc l) x)
    (λ f. let both = rooted_parts l x (sym (roots_among l x) ∙ f) in let low = both.1 in rooted_from (suc l) x both.0 (omega arith))
    (or_cases (same x (at (suc l) [])) (among (roots l) x) t))
    (λ t. let both = rooted_parts (suc l) x t in let low = both.1 in
    ⊎_elim
    (λ below. or_right (same x (at (suc l) [])) _ (roots_among l x ∙ rooted_from l x both.0 (omega arith)))
    (λ above. let is : x ≡ at (suc l) [] = ap₂ at {x = x.level} {y = suc l} (omega arith) both.0 in
    or_left _ _ (ap (λ z. same z (at (suc l) [])) is ∙ same_refl (at (suc l) [])))
    (cases_lt x.level (suc l)))

calls_among : (p : Position) (xs : List Record) (x : Position) → among (calls_of p xs) x ≡ value_at calling p xs x
calls_among p [] x = refl
calls_among p (Call f ∷ xs) x = ap (λ w. same x (move p (Call f)) || w) (calls_among (move p (Call f)) xs x) ∙ go (same x (move p (Call f))) _
  where
    go : (b c : Bool) → (b || c) ≡ cond b (true || c) c
    go true c = refl
    go false c = refl
calls_among p (Return ∷ xs) x = calls_among (move p Return) xs x
calls_among p (Unwind n ∷ xs) x = calls_among (move p (Unwind n)) xs x
calls_among p (Sample s ∷ xs) x = calls_among p xs x ∙ go (same x p) _
  where
    go : (b c : Bool) → c ≡ cond b (false || c) c
    go true c = refl
    go false c = refl

pub rows_among : (xs : List Record) (x : Position) → among (rows_of xs) x ≡ (rooted (ends start xs).level x || value_at calling start xs x)
rows_among xs x =
    lean_among (roots (ends start xs).level ++ calls_of start xs) x
    ∙ among_append (roots (ends start xs).level) (calls_of start xs) x
    ∙ ap₂ ◌||◌ (roots_among (ends start xs).level x) (calls_among start xs x)

pub counted_stands : {M : Type 0} (m : Measure M) → Counted m
counted_stands m xs ks d h = same_count ks (rows_of xs) (distinct ks d) (lean_distinct (roots (ends start xs).level ++ calls_of start xs)) (λ x. h x ∙ sym (rows_among xs x))

pub listed_alike : (ks ls : List Position) → apart ks ≡ true → apart ls ≡ true → ((x : Position) → among ks x ≡ among ls x) → (length ks ≡ length ls) × (long_one ks ≡ long_one ls)
listed_alike ks ls d e h = same_count ks ls (distinct ks d) (distinct ls e) h
