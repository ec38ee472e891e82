use native.Mathlib.Omega.{arith}
use Rattle.metrics.specs.Lawful.{capped_path}
use Rattle.metrics.proofs.sum.SumMetric.join.Goals as goal

-- the sum of two sums, each of them stopped, stops where the whole sum would
pub returns : goal.returns
returns g c = capped_path _ _ (omega arith)
