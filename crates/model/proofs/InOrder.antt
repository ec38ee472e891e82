-- The join in list order, from the unit, is the join that the definitions use. Assumes nothing.
use Rattle.std.proofs.Common.{◌≡◌, Bool, true, false, cond, List, [], ◌∷◌, sym, refl, ◌∙◌}
use Rattle.metrics.specs.Measures.{Measure, Laws}
use Rattle.metrics.specs.Joins.{joins, gathered}
use Rattle.model.proofs.Totals.{unit_right}

module _ {M : Type 0} {m : Measure M} (laws : Laws m) where
  gathered_joins : {K : Type 0} (test : K → Bool) (a : M) (rows : List (K × M)) → gathered m a test rows ≡ m.join a (joins m test rows)
  gathered_joins test a [] = sym (unit_right laws a)
  gathered_joins test a (r ∷ rows) = gathered_joins test (cond (test r.0) (m.join a r.1) a) rows ∙ go (test r.0)
    where
      go : (b : Bool) → m.join (cond b (m.join a r.1) a) (joins m test rows) ≡ m.join a (cond b (m.join r.1 (joins m test rows)) (joins m test rows))
      go true = laws.assoc a r.1 (joins m test rows)
      go false = refl

  pub in_order : {K : Type 0} (test : K → Bool) (rows : List (K × M)) → gathered m m.none test rows ≡ joins m test rows
  in_order test rows = gathered_joins test m.none rows ∙ laws.unit _
