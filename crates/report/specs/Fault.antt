-- The numbers by which refusals go. Want of memory has none.
use Rattle.std.specs.Prelude.{ℕ, Some, None, Option}
use Rattle.report.specs.declared.fault.OutlineError.{OutlineError}
use Rattle.report.specs.declared.fault.OutlineError.TheVariants.{NotAShape, ShortColumn, NoMemory}

abbrev pub cause_of : OutlineError → Option ℕ
cause_of NotAShape = Some 14
cause_of ShortColumn = Some 13
cause_of NoMemory = None
