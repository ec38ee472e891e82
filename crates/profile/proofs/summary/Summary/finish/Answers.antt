use Rattle.std.proofs.Common.{◌≡◌, length, get_or, sym, refl, ap, ◌∙◌}
use Rattle.model.specs.Positions.{Position}
use Rattle.rows.specs.Shapes.{shapes, blank}
use Rattle.rows.specs.Cells.{values, marks}
use Rattle.rows.proofs.Sounds.{whole}
use Rattle.rows.proofs.Readings.{depth_is}
use Rattle.rows.proofs.Flats.{flat_finished}
use Rattle.profile.proofs.summary.Summary.finish.Goals as goal

pub flatten-table-requires : goal.flatten-table-requires
flatten-table-requires g c = (whole c.args.self.sound).table

pub returns : goal.returns
returns g c =
    let m = g.M.Metric in
    let a = c.args.self in
    let rows = a.table.rows.now in
    let n = a.table.count in
    let tree = c.flatten-table.result in
    let after = tree.rows.now in
    let x = c.flatten-table.ensures.flat in
    let to = get_or (marks after) a.current 0 in
    let deep : (get_or (shapes after) c.mark_of-current.result blank).depth ≡ (get_or (shapes rows) a.current blank).depth =
    ap (λ k. (get_or (shapes after) k blank).depth) c.mark_of-current.ensures.is
    ∙ sym (depth_is (shapes after) to) ∙ ap (λ (p : Position). length p.path) (x.marked a.current a.opened).1 ∙ depth_is (shapes rows) a.current in
    flat_finished g.met.M.Metric.lawful (shapes rows) (shapes after) (values m.means rows) (values m.means after) (marks after) n a.level a.current tree.count (whole a.sound) x a.level (get_or (shapes after) c.mark_of-current.result blank).depth refl deep
