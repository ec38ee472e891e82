-- What a metric is over the meanings of its values, and its laws. Assumes nothing.
use Rattle.std.specs.Prelude.{◌≡◌}
use Rattle.trace.specs.declared.record.Sample.{Sample}

-- the unit, the value of a call and of a sample, and the join of two values
pub record Measure (M : Type 0) : Type 0 where
  pub none : M
  pub of_call : M
  pub of_sample : Sample → M
  pub join : M → M → M

-- the join is associative and commutative, and the unit changes nothing
pub record Laws {M : Type 0} (m : Measure M) : Type 0 where
  pub assoc : (a b c : M) → m.join (m.join a b) c ≡ m.join a (m.join b c)
  pub comm : (a b : M) → m.join a b ≡ m.join b a
  pub unit : (a : M) → m.join m.none a ≡ a
