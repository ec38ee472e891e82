use Rattle.trace_bytes.proofs.FieldSteps.{Reading}
use Rattle.trace_bytes.proofs.record.Fields.read.Given as goal

abbrev pub invariant-loop-number : goal.invariant-loop-number
invariant-loop-number g l = Reading g.row.N l.number-index l.number-items l.self.bytes.now l.self.at l.taken
