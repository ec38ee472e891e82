use Rattle.std.proofs.Common.{◌≡◌, ◌+◌, ◌-◌, length, vec_items, vec_len, sym, refl, subst, arith}
use Rattle.rows.specs.ShapeColumn.{depth_of}
use Rattle.report.specs.Node.{no_node}
use Rattle.report.proofs.Depths.{above_is, depth_few}
use Rattle.report.proofs.Lists.{pushed_each}
use Rattle.report.proofs.rooted.nodes_of.Goals as goal

pub overflow_add-above : goal.overflow_add-above
overflow_add-above c =
    let s = c.args.shape.now in
    let k = c.loop-row.row-index in
    let depth = above_is s c.requires (vec_items c.loop-row.nodes) (vec_len c.loop-row.nodes) k c.from.result c.index.result.now (omega arith) c.loop-row.nodes.ok.0 c.loop-row.invariant.long c.loop-row.invariant.depths c.from.ensures c.index.ensures in
    omega (arith, depth, depth_few s (k + 1), c.requires.most, c.loop-row-test.true)

pub loop-row-preserved : goal.loop-row-preserved
loop-row-preserved c =
    let s = c.args.shape.now in
    let k = c.loop-row.row-index in
    let nodes = vec_items c.loop-row.nodes in
    let len = vec_len c.loop-row.nodes in
    let depth = above_is s c.requires nodes len k c.from.result c.index.result.now (omega arith) c.loop-row.nodes.ok.0 c.loop-row.invariant.long c.loop-row.invariant.depths c.from.ensures c.index.ensures in
    let pushed = c.in_ok-push.ensures in
    let now = vec_items c.push.new.self in
    record {
      long = omega (arith, pushed.len, c.loop-row.invariant.long);
      depths = pushed_each (λ i x. x.depth ≡ depth_of s i) no_node _ nodes now len (vec_len c.push.new.self) pushed.len c.loop-row.invariant.depths pushed.by_index.0 (pushed.by_index.1 no_node refl) (subst (λ i. c.index.result.now.depth + 1 ≡ depth_of s i) (sym c.loop-row.invariant.long) depth);
      starts = pushed_each (λ i x. x.start ≡ length s - 1) no_node _ nodes now len (vec_len c.push.new.self) pushed.len c.loop-row.invariant.starts pushed.by_index.0 (pushed.by_index.1 no_node refl) refl;
    }
