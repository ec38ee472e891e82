-- The laws of the metrics. Assumes nothing.
use Rattle.std.specs.Prelude.{◌≡◌, ℕ}
use Rattle.std.proofs.Common.{ap₂, arith}
use mathlib.Core.HLevel.{Σ_prop_path}
use Rattle.std.proofs.Math.Bridge.{le_prop}
use Rattle.trace.specs.declared.record.Sample.{Sample}
use Rattle.metrics.specs.Measures.{Measure, Laws}
use Rattle.metrics.specs.Sums.{top, Capped, sums}
use Rattle.metrics.specs.Pairs.{pair}

pub capped_path : (a b : Capped) → a.0 ≡ b.0 → a ≡ b
capped_path a b e = Σ_prop_path (λ (n : ℕ). le_prop {n = n} {m = top}) {u = a} {v = b} e

pub sums_laws : (call : ℕ) (sample : Sample → ℕ) → Laws (sums call sample)
sums_laws call sample = record {
  assoc = λ a b c. capped_path _ _ (omega arith);
  comm = λ a b. capped_path _ _ (omega arith);
  unit = λ a. capped_path _ _ (let h = a.1 in omega arith);
}

pub pair_laws : {M N : Type 0} {m : Measure M} {n : Measure N} → Laws m → Laws n → Laws (pair m n)
pair_laws l k = record {
  assoc = λ a b c. ap₂ (λ x y. (x, y)) (l.assoc a.0 b.0 c.0) (k.assoc a.1 b.1 c.1);
  comm = λ a b. ap₂ (λ x y. (x, y)) (l.comm a.0 b.0) (k.comm a.1 b.1);
  unit = λ a. ap₂ (λ x y. (x, y)) (l.unit a.0) (k.unit a.1);
}
