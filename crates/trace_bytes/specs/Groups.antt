-- Numbers in bytes. Assumes nothing.
use Rattle.std.specs.Prelude.{ℕ, zero, suc, ◌+◌, ◌-◌, ◌*◌, cond, List, [], ◌∷◌, drop, Ok, Err, Result, nat_le, nat_lt}
use Rattle.trace.specs.Fields.{Numbers, listed}
use Rattle.trace.specs.Text.{and_then}
use Rattle.trace.specs.declared.fault.Cause.{Cause}
use Rattle.trace.specs.declared.fault.Cause.TheVariants.{CutShort, TooLarge}

-- The number that bytes begin with, and how many bytes it took. It stands in groups of seven bits, the lowest first, one to a byte; 128 is
-- added to each byte that another follows. At most `more` bytes follow its first one, and the last of so many is at most 15.
abbrev pub groups : ℕ → List ℕ → Result (ℕ × ℕ) Cause
groups more [] = Err CutShort
groups zero (b ∷ bs) = cond (nat_le b 15) (Ok (b, 1)) (Err TooLarge)
groups (suc more) (b ∷ bs) = cond (nat_lt b 128) (Ok (b, 1)) (and_then (groups more bs) (λ v. Ok ((b - 128) + 128 * v.0, v.1 + 1)))

-- a number has at most five bytes
abbrev pub number : List ℕ → Result (ℕ × ℕ) Cause
number bs = groups 4 bs

-- n numbers, one after the other, and how many bytes they took together
abbrev pub numbers : (n : ℕ) → List ℕ → Result (Numbers n × ℕ) Cause
numbers zero bs = Ok (tt, 0)
numbers (suc n) bs = and_then (number bs) (λ v. and_then (numbers n (drop v.1 bs)) (λ vs. Ok ((v.0, vs.0), v.1 + vs.1)))

-- the same with the numbers as a list
abbrev pub number_list : ℕ → List ℕ → Result (List ℕ × ℕ) Cause
number_list n bs = and_then (numbers n bs) (λ v. Ok (listed n v.0, v.1))
