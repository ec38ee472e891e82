use Rattle.std.proofs.Common.{◌≡◌, length}
use Rattle.rows.specs.Shapes.{shapes}
use Rattle.rows.specs.Cells.{values, marks}
use Rattle.rows.specs.Flats.{Flattening}
use Rattle.rows.proofs.table.Table.flatten.Given as goal

abbrev pub invariant-loop-i : goal.invariant-loop-i
invariant-loop-i g l = let m = g.M.Metric in
    Flattening m.measure (shapes l.initial.tree.rows.now) (shapes l.tree.rows.now) (values m.means l.initial.tree.rows.now) (values m.means l.tree.rows.now) (marks l.tree.rows.now) l.tree.count l.i
    × (length l.tree.rows.now ≡ length l.initial.tree.rows.now)
    × (l.tree.rows.ghost_name ≡ l.initial.tree.rows.ghost_name)
