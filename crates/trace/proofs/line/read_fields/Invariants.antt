use Rattle.trace.specs.Words.{words_left}
use Rattle.trace.proofs.LineSteps.{Reading}
use Rattle.trace.proofs.line.read_fields.Given as goal

abbrev pub invariant-loop-field : goal.invariant-loop-field
invariant-loop-field g l = Reading g.row.N l.field-index l.field-items (words_left l.initial.tokens) (words_left l.tokens)
