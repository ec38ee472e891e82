-- Where positions go. Assumes nothing.
use Rattle.std.proofs.Common.{◌≡◌, ℕ, zero, suc, ◌+◌, ◌-◌, ◌≤◌, true, eqb, List, [], ◌∷◌, ◌++◌, length, drop, sym, refl, ap, ◌∙◌, ap₂, arith, length-append, take_at}
use lib.Seq.{drop-nil}
use Rattle.std.proofs.lemmas.Bool.{eqb-true, eq-eqb, and_parts, and_from}
use Rattle.trace.specs.declared.record.Record.{Record}
use Rattle.trace.specs.declared.record.Record.TheVariants.{Call, Return, Unwind, Sample}
use Rattle.model.specs.Positions.{Path, Position, at, start, returned, unwound, move, ends, same, same_path, moved}
use Rattle.model.specs.Summaries.{source}

-- the tests
pub same_path_refl : (q : Path) → same_path q q ≡ true
same_path_refl [] = refl
same_path_refl (f ∷ q) = and_from _ _ (eq-eqb f f refl) (same_path_refl q)

pub same_path_true : (q r : Path) → same_path q r ≡ true → q ≡ r
same_path_true [] [] e = refl
same_path_true [] (g ∷ r) e = let z : ◌≡◌ {A = ℕ} 0 1 = cc in absurd (omega arith)
same_path_true (f ∷ q) [] e = let z : ◌≡◌ {A = ℕ} 0 1 = cc in absurd (omega arith)
same_path_true (f ∷ q) (g ∷ r) e =
    let both = and_parts (eqb f g) (same_path q r) e in
    ap₂ {C = Path} (λ x y. x ∷ y) (eqb-true f g both.0) (same_path_true q r both.1)

pub same_refl : (x : Position) → same x x ≡ true
same_refl x = and_from _ _ (eq-eqb x.level x.level refl) (same_path_refl x.path)

pub same_true : (x y : Position) → same x y ≡ true → x ≡ y
same_true x y e =
    let both = and_parts (eqb x.level y.level) (same_path x.path y.path) e in
    ap₂ at (eqb-true x.level y.level both.0) (same_path_true x.path y.path both.1)

-- a move after e
back : (p l : ℕ) (a : Path) → at (p + (suc l - length a)) (drop (suc l) a) ≡ returned (p + (l - length a)) (drop l a)
back p l [] = rw (drop-nil {A = ℕ} l) (ap (λ n. at n []) (omega arith))
back p zero (f ∷ a) = ap (λ n. at n a) (omega arith)
back p (suc l) (f ∷ a) = ap (λ n. at (p + n) (drop (suc l) a)) (omega arith) ∙ back p l a ∙ ap (λ n. returned (p + n) (drop l a)) (omega arith)

pub moved_start : (e : Position) → moved e start ≡ e
moved_start e = ap (λ n. at n e.path) (omega arith)

pub moved_returned : (e : Position) (l : ℕ) (q : Path) → moved e (returned l q) ≡ returned (moved e (at l q)).level (moved e (at l q)).path
moved_returned e l [] = back e.level l e.path
moved_returned e l (f ∷ q) = refl

pub moved_unwound : (e : Position) (n : ℕ) (p : Position) → moved e (unwound n p) ≡ unwound n (moved e p)
moved_unwound e zero p = refl
moved_unwound e (suc n) p = moved_unwound e n _ ∙ ap (unwound n) (moved_returned e p.level p.path)

pub moved_move : (e p : Position) (r : Record) → moved e (move p r) ≡ move (moved e p) r
moved_move e p (Call f) = refl
moved_move e p Return = moved_returned e p.level p.path
moved_move e p (Unwind n) = moved_unwound e n p
moved_move e p (Sample s) = refl

pub ends_append : (p : Position) (xs ys : List Record) → ends p (xs ++ ys) ≡ ends (ends p xs) ys
ends_append p [] ys = refl
ends_append p (x ∷ xs) ys = ends_append (move p x) xs ys

pub moved_ends : (e p : Position) (xs : List Record) → ends (moved e p) xs ≡ moved e (ends p xs)
moved_ends e p [] = refl
moved_ends e p (x ∷ xs) = ap (λ q. ends q xs) (sym (moved_move e p x)) ∙ moved_ends e (move p x) xs

-- what goes to y is the source at its own level
pub source_of : (e x : Position) → source e (moved e x) x.level ≡ x
source_of e x = ap (at x.level) (take_at x.path (drop x.level e.path) _ (simp length-append (omega arith)))

pub source_level : (e x : Position) → x.level ≤ length e.path + (moved e x).level
source_level e x = omega arith
