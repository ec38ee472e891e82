use Rattle.std.proofs.Common.{◌≡◌, ◌^◌, ◌<◌, true, drop}
use Rattle.trace.specs.Text.{value_after}
use Rattle.trace.specs.Words.{all_digits}
use Rattle.trace.proofs.line.number_of.Given as goal

-- so many digits were read
abbrev pub invariant-loop-digit : goal.invariant-loop-digit
invariant-loop-digit l = (l.value < 10 ^ l.digit-index) × (all_digits (drop l.digit-index l.digits) ≡ true) × (value_after l.value (drop l.digit-index l.digits) ≡ value_after 0 l.digits)
