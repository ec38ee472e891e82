-- The digest of what a trace means: one number, which each field of each record takes part in. Assumes nothing.
use Rattle.std.specs.Prelude.{List, [], ◌∷◌, Ok, Err, ℕ, ◌+◌, ◌*◌, ◌^◌, ◌%◌}
use Rattle.trace.specs.Faults.{number}
use Rattle.trace.specs.Meanings.{Meaning}
use Rattle.trace.specs.Sources.{Ending}
use Rattle.trace.specs.declared.fault.Fault.{Fault}
use Rattle.trace.specs.declared.record.Record.{Record}
use Rattle.trace.specs.declared.record.Record.TheVariants.{Call, Return, Unwind, Sample}

-- a sum with one more part, of 64 bits
abbrev pub mixed : ℕ → ℕ → ℕ
mixed sum part = (sum * 31 + part) % 2 ^ 64

-- a record as one number: its kind, and each field by a factor of its own
abbrev pub record_value : Record → ℕ
record_value (Call f) = 1 + 8 * f
record_value Return = 2
record_value (Unwind n) = 3 + 8 * n
record_value (Sample s) = 4 + 8 * s.step + 4099 * s.weight + 2097169 * s.site + 1073741827 * s.region

-- the sum with the cause and the place of a fault
abbrev pub faulted : ℕ → Fault → ℕ
faulted sum f = mixed (mixed sum (number f.cause)) f.place

-- the sum where no record is left
abbrev pub ended : ℕ → Ending → ℕ
ended sum (Ok _) = sum
ended sum (Err f) = faulted sum f

-- the sum with these records, from the first on, and then the ending
abbrev pub digest_from : ℕ → List Record → Ending → ℕ
digest_from sum [] e = ended sum e
digest_from sum (r ∷ rs) e = digest_from (mixed sum (record_value r)) rs e

abbrev pub digest : Meaning → ℕ
digest m = digest_from 0 m.records m.ending
