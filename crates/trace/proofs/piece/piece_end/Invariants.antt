use Rattle.std.proofs.Common.{◌≡◌, ◌+◌, length, drop}
use Rattle.trace.specs.Pieces.{pieces, first}
use Rattle.trace.proofs.piece.piece_end.Given as goal

-- no byte before the place ends the piece
abbrev pub invariant-loop-end : goal.invariant-loop-end
invariant-loop-end l = l.at + length (first (pieces l.separator (drop l.at l.bytes))) ≡ l.end + length (first (pieces l.separator (drop l.end l.bytes)))
