use Rattle.rows.specs.Shapes.{shapes}
use Rattle.rows.specs.Cells.{values}
use Rattle.rows.proofs.Sounds.{whole}
use Rattle.profile.proofs.Wholes.{complete}
use Rattle.profile.proofs.summary.Summary.row_count.Goals as goal

pub returns-clause-complete : goal.returns-clause-complete
returns-clause-complete g c =
    let m = g.M.Metric in
    let a = c.args.self.now in
    let rows = a.table.rows.now in
    complete m.measure (shapes rows) (values m.means rows) a.table.count a.level a.current _ (whole a.sound) a.table.fits
