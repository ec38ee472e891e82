-- The record of a kind with the fields that were read. Assumes nothing.
use Rattle.std.proofs.Common.{◌≡◌, ℕ, List, get_or, Ok, Result, refl}
use Rattle.trace.specs.Fields.{Numbers, listed, field_count, call_of, unwind_of, sample_of, made}
use Rattle.trace.specs.declared.fault.Cause.{Cause}
use Rattle.trace.specs.declared.kind.Kind.{Kind}
use Rattle.trace.specs.declared.kind.Kind.TheVariants.{Call as IsCall, Return as IsReturn, Unwind as IsUnwind, Sample as IsSample}
use Rattle.trace.specs.declared.record.Record.{Record}
use Rattle.trace.specs.declared.record.Record.TheVariants.{Return}

abbrev pub made_list : Kind → List ℕ → Result Record Cause
made_list IsCall xs = call_of (get_or xs 0 0)
made_list IsReturn xs = Ok Return
made_list IsUnwind xs = unwind_of (get_or xs 0 0)
made_list IsSample xs = sample_of (get_or xs 0 0) (get_or xs 1 0) (get_or xs 2 0) (get_or xs 3 0)

pub made_same : (k : Kind) (v : Numbers (field_count k)) → made_list k (listed (field_count k) v) ≡ made k v
made_same IsCall v = refl
made_same IsReturn v = refl
made_same IsUnwind v = refl
made_same IsSample v = refl
