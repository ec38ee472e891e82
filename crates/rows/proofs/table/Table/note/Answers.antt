use Rattle.std.proofs.Common.{◌≤◌, sym, refl, subst, length-set}
use Rattle.rows.proofs.Views.{kept_heads, kept_links, kept_shapes, kept_values, wrote_mark}
use Rattle.rows.proofs.Chains.{indexed_moved}
use Rattle.rows.proofs.table.Table.note.Goals as goal

pub invariant_of-self-clause-indexed : goal.invariant_of-self-clause-indexed
invariant_of-self-clause-indexed g c =
    let rows = c.args.self.now.rows.now in
    let i = c.args.i in
    let d = c.index-self-i.result in
    indexed_moved _ _ _ _ _ _ _ (kept_shapes rows i _ d c.requires.row refl) (kept_heads rows i _ d c.requires.row refl) (kept_links rows i _ d c.requires.row refl) c.args.self.now.indexed

pub invariant_of-self-clause-few : goal.invariant_of-self-clause-few
invariant_of-self-clause-few g c = subst (λ k. k ≤ 65535) (sym (length-set c.args.self.now.rows.now c.args.i _)) c.args.self.now.few

pub returns : goal.returns
returns g c =
    let m = g.M.Metric in
    let rows = c.args.self.now.rows.now in
    let i = c.args.i in
    let d = c.index-self-i.result in
    record {
      same_reference = refl;
      same = kept_shapes rows i _ d c.requires.row refl;
      held = kept_values rows i m.means _ d c.requires.row refl;
      noted = wrote_mark rows i _;
      head = kept_heads rows i _ d c.requires.row refl;
      link = kept_links rows i _ d c.requires.row refl;
      count = refl;
    }
