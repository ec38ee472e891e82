-- Two metrics side by side. Assumes nothing.
use Rattle.metrics.specs.Measures.{Measure}

abbrev pub pair : {M N : Type 0} → Measure M → Measure N → Measure (M × N)
pair m n = record {
  none = (m.none, n.none);
  of_call = (m.of_call, n.of_call);
  of_sample = λ s. (m.of_sample s, n.of_sample s);
  join = λ a b. (m.join a.0 b.0, n.join a.1 b.1);
}
