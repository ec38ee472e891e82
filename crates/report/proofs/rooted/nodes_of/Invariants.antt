use Rattle.std.proofs.Common.{◌≡◌, ℕ, ◌+◌, ◌<◌, vec_items, vec_len}
use Rattle.rows.specs.ShapeColumn.{depth_of}
use Rattle.report.specs.Node.{node_at}
use Rattle.report.proofs.rooted.nodes_of.Given as goal

abbrev pub invariant-loop-row : goal.invariant-loop-row
invariant-loop-row l = record {
  long : vec_len l.nodes ≡ l.row-index + 1;
  depths : (k : ℕ) → k < vec_len l.nodes → (node_at (vec_items l.nodes) k).depth ≡ depth_of l.shape k;
  starts : (k : ℕ) → k < vec_len l.nodes → (node_at (vec_items l.nodes) k).start ≡ l.start;
}
