-- What an input means as one thing, whatever the format that it is written in. Assumes nothing.
use Rattle.std.specs.Prelude.{ℕ, List, [], ◌∷◌, Ok, Err, Result}
use Rattle.trace.specs.Faults.{fault_at}
use Rattle.trace.specs.Fields.{checked}
use Rattle.trace.specs.FieldsRanged.{Good, checked_good}
use Rattle.trace.specs.Ranges.{in_range, InRange}
use Rattle.trace.specs.Sources.{Ending, Every}
use Rattle.trace.specs.declared.fault.Cause.{Cause}
use Rattle.trace.specs.declared.fault.Fault.{Fault}
use Rattle.trace.specs.declared.record.Record.{Record}

-- What an input means: its records, and what comes after them.
pub record Meaning : Type 0 where
  pub records : List Record
  pub ending : Ending

-- no record, and the end
abbrev pub nothing : Meaning
nothing = record { records = []; ending = Ok tt }

-- What is read at place p, and what follows it: a record goes before the records that follow; a cause is the fault at p, in which the
-- input ends, whatever follows.
abbrev pub followed : Result Record Cause → ℕ → Meaning → Meaning
followed (Ok r) p m = record { records = r ∷ m.records; ending = m.ending }
followed (Err c) p m = record { records = []; ending = Err (fault_at c p) }

-- what is read, whatever it is, a cause being the fault at place p
abbrev pub found_at : {X : Type 0} → Result X Cause → ℕ → Result X Fault
found_at (Ok x) p = Ok x
found_at (Err c) p = Err (fault_at c p)

-- a record that stands there, if each field is in its range
abbrev pub ranged_only : Record → Result Record Cause
ranged_only r = checked (in_range r) r

pub ranged_only_good : (r : Record) → Good (ranged_only r)
ranged_only_good r = checked_good (in_range r) r (λ e. e)

-- it goes before records in range
pub followed_ranged : (r : Result Record Cause) (p : ℕ) (m : Meaning) → Good r → Every InRange m.records → Every InRange (followed r p m).records
followed_ranged (Ok r) p m h t = (h, t)
followed_ranged (Err c) p m h t = tt
