-- The join of many values. Assumes nothing.
use Rattle.std.specs.Prelude.{List, [], ◌∷◌, Bool, true, false, cond, ◌||◌, ℕ, zero, suc}
use Rattle.metrics.specs.Measures.{Measure}

-- the join of the values whose keys pass the test
abbrev pub joins : {K M : Type 0} → Measure M → (K → Bool) → List (K × M) → M
joins m test [] = m.none
joins m test (r ∷ rows) = cond (test r.0) (m.join r.1 (joins m test rows)) (joins m test rows)

-- the same in list order, from the unit: each value is joined to what there is so far
abbrev pub gathered : {K M : Type 0} → Measure M → M → (K → Bool) → List (K × M) → M
gathered m a test [] = a
gathered m a test (r ∷ rows) = gathered m (cond (test r.0) (m.join a r.1) a) test rows

-- the join of t 0 to t n
abbrev pub over : {M : Type 0} → Measure M → ℕ → (ℕ → M) → M
over m zero t = t 0
over m (suc n) t = m.join (over m n t) (t (suc n))

-- whether there is a call: a metric too, so that what holds of values holds of rows
abbrev pub calling : Measure Bool
calling = record { none = false; of_call = true; of_sample = λ _. false; join = ◌||◌ }
