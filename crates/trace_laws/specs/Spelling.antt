-- What spells a number in bytes, as a relation. Assumes nothing.
use Rattle.std.specs.Prelude.{◌≡◌, ℕ, ◌+◌, ◌*◌, ◌<◌, ◌≤◌, List, [], ◌∷◌, ◌++◌, length, take, Ok}
use Rattle.trace.specs.Sources.{Every}
use Rattle.trace_bytes.specs.Groups.{number}

-- Groups of seven bits, the lowest first; 128 is added to each that another follows.
pub data Spells : List ℕ → ℕ → Type 0 where
  last : (g : ℕ) → g < 128 → Spells (g ∷ []) g
  lower : (g : ℕ) (bs : List ℕ) (n : ℕ) → g < 128 → Spells bs n → Spells ((128 + g) ∷ bs) (g + 128 * n)

-- Each spelling of at most five bytes of a number that 32 bits hold is read, as that number and its length, whatever follows it.
abbrev pub SpellingsRead : Type 0
SpellingsRead = (bs more : List ℕ) (n : ℕ) → Spells bs n → length bs ≤ 5 → n ≤ 4294967295 → number (bs ++ more) ≡ Ok (n, length bs)

-- What bytes begin with, read as the number n in so many bytes.
pub record Spelt (bs : List ℕ) (n taken : ℕ) : Type 0 where
  pub spells : Spells (take taken bs) n
  pub there : taken ≤ length bs
  pub short : taken ≤ 5
  pub fits : n ≤ 4294967295

-- And nothing else is read as a number.
abbrev pub OnlySpellingsRead : Type 0
OnlySpellingsRead = (bs : List ℕ) (n taken : ℕ) → Every (λ b. b < 256) bs → number bs ≡ Ok (n, taken) → Spelt bs n taken
