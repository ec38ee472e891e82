-- Bytes cut into pieces at a separator. Assumes nothing.
use Rattle.std.specs.Prelude.{ℕ, cond, List, [], ◌∷◌, ◌==◌}

-- the pieces with b before the first byte of the first
abbrev pub onto : ℕ → List (List ℕ) → List (List ℕ)
onto b [] = (b ∷ []) ∷ []
onto b (p ∷ ps) = (b ∷ p) ∷ ps

-- Each separator ends a piece and begins another, so that there is always one piece more than there are separators.
abbrev pub pieces : ℕ → List ℕ → List (List ℕ)
pieces sep [] = [] ∷ []
pieces sep (b ∷ bs) = cond (b == sep) ([] ∷ pieces sep bs) (onto b (pieces sep bs))

-- the first of them
abbrev pub first : List (List ℕ) → List ℕ
first [] = []
first (p ∷ ps) = p
