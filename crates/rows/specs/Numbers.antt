-- The numbers of the rejections. Assumes nothing.
use Rattle.std.specs.Prelude.{ℕ}
use Rattle.rows.specs.declared.rejection.Rejection.{Rejection}
use Rattle.rows.specs.declared.rejection.Rejection.TheVariants.{OutOfRange, TableSize, TooFewRows, PathTooLong}

-- each rejection has a number of its own, by which it is printed
abbrev pub number : Rejection → ℕ
number OutOfRange = 4
number TableSize = 8
number TooFewRows = 9
number PathTooLong = 10
