-- The fields of a record, and the record that they make. Assumes nothing.
use Rattle.std.specs.Prelude.{ℕ, zero, suc, cond, ◌&&◌, Bool, List, [], ◌∷◌, Ok, Err, Result}
use Rattle.trace.specs.Ranges.{from_to}
use Rattle.trace.specs.declared.fault.Cause.{Cause}
use Rattle.trace.specs.declared.fault.Cause.TheVariants.{OutOfRange}
use Rattle.trace.specs.declared.kind.Kind.{Kind}
use Rattle.trace.specs.declared.kind.Kind.TheVariants.{Call as IsCall, Return as IsReturn, Unwind as IsUnwind, Sample as IsSample}
use Rattle.trace.specs.declared.record.Record.{Record}
use Rattle.trace.specs.declared.record.Record.TheVariants.{Call, Return, Unwind, Sample}

-- n numbers
abbrev pub Numbers : ℕ → Type 0
Numbers zero = Unit {0}
Numbers (suc n) = ℕ × Numbers n

-- the same as a list
abbrev pub listed : (n : ℕ) → Numbers n → List ℕ
listed zero v = []
listed (suc n) v = v.0 ∷ listed n v.1

-- how many fields a kind has
abbrev pub field_count : Kind → ℕ
field_count IsCall = 1
field_count IsReturn = 0
field_count IsUnwind = 1
field_count IsSample = 4

-- a record, if its fields are in range
abbrev pub checked : Bool → Record → Result Record Cause
checked b r = cond b (Ok r) (Err OutOfRange)

abbrev pub call_of : ℕ → Result Record Cause
call_of function = checked (from_to 1 65535 function) (Call function)

abbrev pub unwind_of : ℕ → Result Record Cause
unwind_of count = checked (from_to 1 4095 count) (Unwind count)

abbrev pub sample_of : ℕ → ℕ → ℕ → ℕ → Result Record Cause
sample_of step weight site region = checked (from_to 1 4294967295 weight && (from_to 0 65535 site && from_to 0 63 region)) (Sample (record { step = step; weight = weight; site = site; region = region }))

-- the record of a kind with these fields, if each is in its range
abbrev pub made : (k : Kind) → Numbers (field_count k) → Result Record Cause
made IsCall v = call_of v.0
made IsReturn v = Ok Return
made IsUnwind v = unwind_of v.0
made IsSample v = sample_of v.0 v.1.0 v.1.1.0 v.1.1.1.0
