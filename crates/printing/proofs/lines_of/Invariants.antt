use Rattle.std.proofs.Common.{◌≡◌, vec_len}
use Rattle.printing.proofs.lines_of.Given as goal

abbrev pub invariant-loop-line : goal.invariant-loop-line
invariant-loop-line l = vec_len l.lines ≡ l.line-index
