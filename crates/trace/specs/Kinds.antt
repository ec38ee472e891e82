-- The kinds of records, and what tells them in each format. Assumes nothing.
use Rattle.std.specs.Prelude.{ℕ, cond, List, Ok, Err, codes, Result, ◌==◌}
use Rattle.std.specs.Str.{bytes_eq}
use Rattle.trace.specs.declared.fault.Cause.{Cause}
use Rattle.trace.specs.declared.fault.Cause.TheVariants.{UnknownKind}
use Rattle.trace.specs.declared.kind.Kind.{Kind}
use Rattle.trace.specs.declared.kind.Kind.TheVariants.{Call, Return, Unwind, Sample}

-- the kind that a word names
abbrev pub kind_of_word : List ℕ → Result Kind Cause
kind_of_word w = cond (bytes_eq w (codes "call")) (Ok Call) (cond (bytes_eq w (codes "back")) (Ok Return) (cond (bytes_eq w (codes "unwind")) (Ok Unwind) (cond (bytes_eq w (codes "sample")) (Ok Sample) (Err UnknownKind))))

-- the kind that a byte tells
abbrev pub kind_of_byte : ℕ → Result Kind Cause
kind_of_byte b = cond (b == 1) (Ok Call) (cond (b == 2) (Ok Return) (cond (b == 3) (Ok Unwind) (cond (b == 4) (Ok Sample) (Err UnknownKind))))
