use Rattle.std.proofs.Common.{◌≡◌, ℕ, ◌<◌, length}
use Rattle.report.specs.Node.{node_at}
use Rattle.report.proofs.Starts.{BeginsBelow}
use Rattle.report.proofs.order.find_starts.Given as goal

abbrev pub invariant-loop-k : goal.invariant-loop-k
invariant-loop-k l = record {
  starts : (i : ℕ) → i < length l.nodes → BeginsBelow l.k l.order i (node_at l.nodes i).start;
  depths : (i : ℕ) → i < length l.nodes → (node_at l.nodes i).depth ≡ (node_at l.initial.nodes i).depth;
}
