use Rattle.profile.proofs.Fixing.{reads_fixed}
use Rattle.profile.proofs.reading.reading_laws.Goals as goal

pub returns : goal.returns
returns g c = reads_fixed g.M.Metric.measure
