-- How many rows a summary has, and whether a path is too long: what a rejection is decided by. Assumes nothing.
use Rattle.std.specs.Prelude.{◌≡◌, ℕ, zero, suc, Bool, true, false, cond, not, ◌&&◌, ◌||◌, List, [], ◌∷◌, ◌++◌, length, nat_lt}
use Rattle.trace.specs.declared.record.Record.{Record}
use Rattle.trace.specs.declared.record.Record.TheVariants.{Call, Return, Unwind, Sample}
use Rattle.model.specs.Positions.{Position, at, start, move, ends, same}
use Rattle.metrics.specs.Measures.{Measure}
use Rattle.model.specs.Summaries.{summary}

-- x is one of ks
abbrev pub among : List Position → Position → Bool
among [] x = false
among (k ∷ ks) x = same x k || among ks x

-- none of them comes twice
abbrev pub apart : List Position → Bool
apart [] = true
apart (k ∷ ks) = not (among ks k) && apart ks

-- each of them once
abbrev pub lean : List Position → List Position
lean [] = []
lean (k ∷ ks) = cond (among ks k) (lean ks) (k ∷ lean ks)

-- the contexts with the empty path of level 0 to l
abbrev pub roots : ℕ → List Position
roots zero = at 0 [] ∷ []
roots (suc l) = at (suc l) [] ∷ roots l

-- the contexts of the calls
abbrev pub calls_of : Position → List Record → List Position
calls_of p [] = []
calls_of p (Call f ∷ rs) = move p (Call f) ∷ calls_of (move p (Call f)) rs
calls_of p (Return ∷ rs) = calls_of (move p Return) rs
calls_of p (Unwind n ∷ rs) = calls_of (move p (Unwind n)) rs
calls_of p (Sample s ∷ rs) = calls_of p rs

abbrev pub rows_of : List Record → List Position
rows_of xs = lean (roots (ends start xs).level ++ calls_of start xs)

-- the number of rows of the list's summary
abbrev pub count : List Record → ℕ
count xs = length (rows_of xs)

-- some path is longer than 512
abbrev pub long_one : List Position → Bool
long_one [] = false
long_one (k ∷ ks) = nat_lt 512 (length k.path) || long_one ks

abbrev pub deep : List Record → Bool
deep xs = long_one (rows_of xs)

-- Any list of the rows of a summary, each once, has that number, and tells whether a path is too long.
abbrev pub Counted : {M : Type 0} → Measure M → Type 0
Counted m = (xs : List Record) (ks : List Position) → apart ks ≡ true → ((x : Position) → among ks x ≡ (summary m xs).row x) → (length ks ≡ count xs) × (long_one ks ≡ deep xs)
