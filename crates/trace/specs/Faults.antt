-- The numbers of the causes. Assumes nothing.
use Rattle.std.specs.Prelude.{ℕ}
use Rattle.trace.specs.declared.fault.Cause.{Cause}
use Rattle.trace.specs.declared.fault.Cause.TheVariants.{CutShort, TooLarge, UnknownKind, OutOfRange, BadField}
use Rattle.trace.specs.declared.fault.Fault.{Fault}

abbrev pub number : Cause → ℕ
number CutShort = 1
number TooLarge = 2
number UnknownKind = 3
number OutOfRange = 4
number BadField = 5

-- a fault where it arises: no layer has passed it up yet
abbrev pub fault_at : Cause → ℕ → Fault
fault_at c n = record { cause = c; place = n; passed = 0 }
