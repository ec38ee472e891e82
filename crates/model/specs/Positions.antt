-- Positions and contexts. A path is held innermost function first: `2 ∷ 1 ∷ []` is written 1/2. Assumes nothing.
use Rattle.std.specs.Prelude.{ℕ, zero, suc, ◌+◌, ◌-◌, Bool, true, false, ◌&&◌, List, [], ◌∷◌, ◌++◌, length, drop, ◌==◌}
use Rattle.trace.specs.declared.record.Record.{Record}
use Rattle.trace.specs.declared.record.Record.TheVariants.{Call, Return, Unwind, Sample}

abbrev pub Path : Type 0
Path = List ℕ

-- a level and a path: where a trace stands, and what a row is of
pub record Position : Type 0 where
  pub level : ℕ
  pub path : Path

abbrev pub at : ℕ → Path → Position
at l q = record { level = l; path = q }

abbrev pub start : Position
start = at 0 []

-- a return takes the last function off; where there is none, it adds 1 to the level
abbrev pub returned : ℕ → Path → Position
returned l [] = at (suc l) []
returned l (f ∷ q) = at l q

-- n returns
abbrev pub unwound : ℕ → Position → Position
unwound zero p = p
unwound (suc n) p = unwound n (returned p.level p.path)

abbrev pub move : Position → Record → Position
move p (Call f) = at p.level (f ∷ p.path)
move p Return = returned p.level p.path
move p (Unwind n) = unwound n p
move p (Sample s) = p

-- the position after a list of records
abbrev pub ends : Position → List Record → Position
ends p [] = p
ends p (r ∷ rs) = ends (move p r) rs

abbrev pub same_path : Path → Path → Bool
same_path [] [] = true
same_path [] (g ∷ r) = false
same_path (f ∷ q) [] = false
same_path (f ∷ q) (g ∷ r) = f == g && same_path q r

abbrev pub same : Position → Position → Bool
same x y = x.level == y.level && same_path x.path y.path

-- Where a row goes that stands at x in a summary put after one that ends at e: to e's level, with e's path without its last
-- x.level functions, followed by x's path; where x.level is above the length of e's path, that much above e's level.
abbrev pub moved : Position → Position → Position
moved e x = at (e.level + (x.level - length e.path)) (x.path ++ drop x.level e.path)
