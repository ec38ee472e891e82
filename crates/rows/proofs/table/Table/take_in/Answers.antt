use Rattle.std.proofs.Common.{sym, ◌∙◌}
use Rattle.rows.specs.Shapes.{shapes}
use Rattle.rows.specs.Cells.{heads, links}
use Rattle.rows.proofs.Views.{long, long_heads, long_links}
use Rattle.rows.proofs.Chains.{whole_index, indexed_linked}
use Rattle.rows.proofs.table.Table.take_in.Goals as goal

pub invariant_of-self-clause-indexed : goal.invariant_of-self-clause-indexed
invariant_of-self-clause-indexed g c =
    let a = c.args.self.now in
    let rows = a.rows.now in
    let after = c.chain.new.rows in
    let f = c.chain.ensures in
    ∣ indexed_linked (shapes rows) (shapes after) (heads rows) (heads after) (links rows) (links after) a.count c.slot_at-h.result
    (rw long c.requires) (long_heads rows ∙ sym (long rows)) (long_links rows ∙ sym (long rows)) (whole_index a.indexed) c.slot_at-h.ensures.is (rw long c.slot_at-h.ensures.within) f.same f.head f.link ∣₁
