use Rattle.std.proofs.Common.{subst, arith}
use Rattle.rows.specs.Shapes.{shapes}
use Rattle.rows.specs.Columns.{Shaped}
use Rattle.rows.proofs.Sounds.{whole_table}
use Rattle.profile.proofs.Shaping.{shaped_is}
use Rattle.profile.proofs.tree.Tree.shape.Goals as goal

pub returns : goal.returns
returns g c =
    let t = c.args.self.now in
    let l = c.in_ok-places.ensures in
    let s = shapes t.table.rows.now in
    let after = c.fill_shape_first.new.column in
    let filled = subst (λ n. Shaped s c.args.column.now after n) c.count.ensures c.fill_shape_first.ensures in
    (l, filled, shaped_is s t.table.count (whole_table t.sound) c.args.column.now after l (omega (arith, t.table.fits, t.table.few)) filled)
