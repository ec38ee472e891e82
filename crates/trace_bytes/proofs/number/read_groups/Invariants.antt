use Rattle.std.proofs.Common.{◌+◌, ◌≤◌, length, max}
use Rattle.trace_bytes.proofs.GroupSteps.{Read}
use Rattle.trace_bytes.proofs.number.read_groups.Given as goal

-- so far it is the lower groups of the number
abbrev pub invariant-loop-taken : goal.invariant-loop-taken
invariant-loop-taken l = Read l.bytes l.at l.low l.scale l.taken (l.at + l.taken) × (l.at + l.taken ≤ max l.at (length l.bytes))
