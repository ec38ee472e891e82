-- The ranges of a record's fields. Assumes nothing.
use Rattle.std.specs.Prelude.{◌≡◌, ℕ, Bool, true, ◌&&◌, nat_le}
use Rattle.trace.specs.declared.record.Record.{Record}
use Rattle.trace.specs.declared.record.Record.TheVariants.{Call, Return, Unwind, Sample}
use Rattle.trace.specs.declared.record.Sample.{Sample as Measured}

-- a number of low to high
abbrev pub from_to : ℕ → ℕ → ℕ → Bool
from_to low high n = nat_le low n && nat_le n high

-- A step is any number of 32 bits and a site any of 16, which their types say.
abbrev pub sample_in_range : Measured → Bool
sample_in_range s = from_to 1 4294967295 s.weight && from_to 0 63 s.region

abbrev pub in_range : Record → Bool
in_range (Call f) = from_to 1 65535 f
in_range Return = true
in_range (Unwind n) = from_to 1 4095 n
in_range (Sample s) = sample_in_range s

abbrev pub InRange : Record → Type 0
InRange r = in_range r ≡ true
