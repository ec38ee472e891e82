use Rattle.std.proofs.Common.{◌≤◌, set, sym, refl, ap, ◌∙◌, subst, length-set}
use Rattle.rows.specs.Cells.{values}
use Rattle.rows.proofs.Views.{kept_heads, kept_links, kept_marks, kept_shapes, read_value, wrote_value}
use Rattle.rows.proofs.Chains.{indexed_moved}
use Rattle.rows.proofs.table.Table.book.Goals as goal

pub invariant_of-self-clause-indexed : goal.invariant_of-self-clause-indexed
invariant_of-self-clause-indexed g c =
    let rows = c.args.self.now.rows.now in
    let i = c.args.i in
    let d = c.index-self-i-2.result in
    indexed_moved _ _ _ _ _ _ _ (kept_shapes rows i _ d c.requires refl) (kept_heads rows i _ d c.requires refl) (kept_links rows i _ d c.requires refl) c.args.self.now.indexed

pub invariant_of-self-clause-few : goal.invariant_of-self-clause-few
invariant_of-self-clause-few g c = subst (λ k. k ≤ 65535) (sym (length-set c.args.self.now.rows.now c.args.i _)) c.args.self.now.few

pub returns : goal.returns
returns g c =
    let m = g.M.Metric in
    let rows = c.args.self.now.rows.now in
    let i = c.args.i in
    let d = c.index-self-i-2.result in
    let own = read_value rows i m.means c.index-self-i.result m.measure.none c.requires in
    record {
      same_reference = refl;
      same = kept_shapes rows i _ d c.requires refl;
      held = wrote_value rows i m.means _ ∙ ap (set (values m.means rows) i) (c.join.ensures ∙ ap (λ v. m.measure.join v (m.means c.args.value)) own);
      noted = kept_marks rows i _ d c.requires refl;
      head = kept_heads rows i _ d c.requires refl;
      link = kept_links rows i _ d c.requires refl;
      count = refl;
    }
