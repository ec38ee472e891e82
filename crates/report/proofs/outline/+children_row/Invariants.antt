use Rattle.std.proofs.Common.{◌≡◌, ℕ, ◌+◌, ◌-◌, ◌*◌, List, length, drop}
use Rattle.report.specs.declared.outline.Line.{Line}
use Rattle.report.specs.Answer.{led_from}
use Rattle.report.specs.Outline.{RowsDrawn, led_by}
use Rattle.report.specs.Size.{size_of, sizes_of}
use Rattle.report.proofs.outline.+children_row.Given as goal

-- A child's number is above its parent's.
abbrev pub decreases-children : goal.decreases-children
decreases-children l = (length l.shape.now - l.parent) * 2

abbrev pub decreases-row : goal.decreases-row
decreases-row l = (length l.shape.now - l.this) * 2 + 1

-- What is left to write is as long as what was to be written, and completes it.
abbrev pub invariant-children-loop-entry : goal.invariant-children-loop-entry
invariant-children-loop-entry l = record {
  long : (l.end + sizes_of l.shape (led_by l.shape l.parent (drop l.entry-index l.entry-items))) + 1 ≡ l.at + size_of l.shape l.parent;
  completes : (e : ℕ) (new : List Line) → RowsDrawn l.shape (led_by l.shape l.parent (drop l.entry-index l.entry-items)) l.end e l.column new → RowsDrawn l.shape (led_from l.shape l.tree l.parent) l.at e l.initial.column new;
}
