use Rattle.model.proofs.Trees.{values_stand, paths_stand, inclusive_stands}
use Rattle.model.proofs.tree_laws.Goals as goal

pub returns : goal.returns
returns g c =
    let laws = g.met.M.Metric.lawful in
    record { values = values_stand laws; paths = paths_stand g.M.Metric.measure; inclusive = inclusive_stands laws }
