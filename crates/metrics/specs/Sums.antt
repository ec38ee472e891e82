-- Sums that stop at the largest number of 64 bits: Calls and Work. Assumes nothing.
use Rattle.std.specs.Prelude.{ℕ, ◌+◌, ◌≤◌, min}
use Rattle.std.proofs.Common.{arith}
use Rattle.trace.specs.declared.record.Sample.{Sample}
use Rattle.metrics.specs.Measures.{Measure}

abbrev pub top : ℕ
top = 18446744073709551615

-- a number of 0 to top
abbrev pub Capped : Type 0
Capped = (n : ℕ) × (n ≤ top)

pub min_top : (n : ℕ) → min n top ≤ top
min_top n = omega arith

-- n, stopping at top
abbrev pub capped : ℕ → Capped
capped n = (min n top, min_top n)

-- the sum of what each call and each sample gives, stopping at top
abbrev pub sums : ℕ → (Sample → ℕ) → Measure Capped
sums call sample = record {
  none = capped 0;
  of_call = capped call;
  of_sample = λ s. capped (sample s);
  join = λ a b. capped (a.0 + b.0);
}

-- 1 for a call, 0 for a sample
abbrev pub calls : Measure Capped
calls = sums 1 (λ s. 0)

-- 0 for a call, the weight for a sample
abbrev pub work : Measure Capped
work = sums 0 (λ s. s.weight)
