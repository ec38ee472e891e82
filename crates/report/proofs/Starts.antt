-- Where a row's children begin, when the order has been read up to a node.
use Rattle.std.proofs.Common.{◌≡◌, ℕ, ◌<◌, ◌≤◌, List, length}
use Rattle.report.specs.declared.order.Entry.{Entry}
use Rattle.report.specs.Order.{entry_at}

-- `at` is the first place below `high` whose entry has the parent, or the order's length where there is none
pub record BeginsBelow (high : ℕ) (order : List Entry) (parent at : ℕ) : Type 0 where
  pub none_before : (k : ℕ) → k < high → k < at → (entry_at order k).parent ≡ parent → ⊥
  pub here : at < length order → (entry_at order at).parent ≡ parent
  pub within : at ≤ length order
