use Rattle.std.proofs.Common.{subst}
use Rattle.std.proofs.lemmas.List.{length-map}
use Rattle.rows.specs.Shapes.{shapes}
use Rattle.rows.specs.Cells.{values}
use Rattle.rows.specs.Columns.{meanings, Filled}
use Rattle.rows.proofs.Sounds.{whole_table}
use Rattle.rows.proofs.Columns.{included}
use Rattle.profile.proofs.tree.Tree.inclusive.Goals as goal

pub fill_first-requires : goal.fill_first-requires
fill_first-requires g c = let t = c.args.self.now in record { fits = rw c.count.ensures t.table.fits; tree = rw c.count.ensures (whole_table t.sound); long = rw c.count.ensures c.in_ok-places.ensures }

pub returns : goal.returns
returns g c =
    let m = g.M.Metric in
    let t = c.args.self.now in
    (rw length-map c.in_ok-places.ensures, included m.measure (shapes t.table.rows.now) (values m.means t.table.rows.now) _ _ t.table.count (subst (λ n. Filled m.measure (shapes t.table.rows.now) (values m.means t.table.rows.now) (meanings m.means c.args.column.now) (meanings m.means c.fill_first.new.column) n) c.count.ensures c.fill_first.ensures))
