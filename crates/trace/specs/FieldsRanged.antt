-- A record that fields make is in range. Assumes nothing.
use Rattle.std.specs.Prelude.{◌≡◌, Bool, true, false, ◌&&◌, Ok, Err, Result, refl}
use Rattle.trace.specs.Fields.{Numbers, field_count, checked, made}
use Rattle.trace.specs.Ranges.{from_to, InRange}
use Rattle.trace.specs.declared.fault.Cause.{Cause}
use Rattle.trace.specs.declared.kind.Kind.{Kind}
use Rattle.trace.specs.declared.kind.Kind.TheVariants.{Call as IsCall, Return as IsReturn, Unwind as IsUnwind, Sample as IsSample}
use Rattle.trace.specs.declared.record.Record.{Record}
use Rattle.trace.specs.declared.record.Record.TheVariants.{Call, Unwind}

-- a record that was read is in range
abbrev pub Good : Result Record Cause → Type 0
Good (Ok r) = InRange r
Good (Err c) = Unit {0}

pub checked_good : (b : Bool) (r : Record) → (b ≡ true → InRange r) → Good (checked b r)
checked_good true r h = h refl
checked_good false r h = tt

pub drop_middle : (x y z : Bool) → (x && (y && z)) ≡ true → (x && z) ≡ true
drop_middle true true z h = h
drop_middle true false true h = refl
drop_middle true false false h = h
drop_middle false y z h = h

pub made_good : (k : Kind) (v : Numbers (field_count k)) → Good (made k v)
made_good IsCall v = checked_good (from_to 1 65535 v.0) (Call v.0) (λ e. e)
made_good IsReturn v = refl
made_good IsUnwind v = checked_good (from_to 1 4095 v.0) (Unwind v.0) (λ e. e)
made_good IsSample v = checked_good _ _ (drop_middle (from_to 1 4294967295 v.1.0) (from_to 0 65535 v.1.1.0) (from_to 0 63 v.1.1.1.0))
