-- The summary of two lists in a row is the join of their summaries. Assumes nothing.
use Rattle.std.proofs.Common.{◌≡◌, List, ◌++◌, sym, ap, ◌∙◌}
use mathlib.Core.Path.{fun_ext}
use Rattle.trace.specs.declared.record.Record.{Record}
use Rattle.model.specs.Positions.{start, ends, moved}
use Rattle.metrics.specs.Measures.{Measure, Laws}
use Rattle.model.specs.Summaries.{Joins}
use Rattle.model.proofs.Moves.{ends_append, moved_start, moved_ends}
use Rattle.model.proofs.Meeting.{value_append}
use Rattle.model.proofs.Rows.{row_append}

pub ends_joined : (xs ys : List Record) → ends start (xs ++ ys) ≡ moved (ends start xs) (ends start ys)
ends_joined xs ys = ends_append start xs ys ∙ ap (λ q. ends q ys) (sym (moved_start (ends start xs))) ∙ moved_ends (ends start xs) start ys

pub summary_append : {M : Type 0} (m : Measure M) → Laws m → Joins m
summary_append m laws xs ys = λ i. record {
  end = ends_joined xs ys i;
  row = fun_ext (row_append xs ys) i;
  value = fun_ext (value_append laws xs ys) i;
}
