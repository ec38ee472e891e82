use Rattle.std.proofs.Common.{arith}
use Rattle.rows.specs.Shapes.{shapes}
use Rattle.rows.specs.Cells.{values}
use Rattle.rows.proofs.Sounds.{whole_table, some}
use Rattle.rows.proofs.Readings.{depth_is}
use Rattle.profile.proofs.Telling.{paths_apart, path_there, path_of}
use Rattle.profile.proofs.tree.Tree.row_count.Goals as goal

pub returns-clause-whole : goal.returns-clause-whole
returns-clause-whole g c =
    let m = g.M.Metric in
    let a = c.args.self.now in
    let s = shapes a.table.rows.now in
    let v = values m.means a.table.rows.now in
    let n = a.table.count in
    let t = whole_table a.sound in
    record {
      some = some s n 0 t;
      there = path_there s n t m.measure.none v;
      each = path_of s n t m.measure.none v;
      apart = paths_apart s n t;
      shallow = λ k h. omega (arith, depth_is s k, (t.good k h).depth);
    }
