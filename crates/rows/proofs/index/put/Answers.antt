use Rattle.std.proofs.Common.{set, refl, ap, ◌∙◌}
use Rattle.rows.specs.Cells.{values}
use Rattle.rows.proofs.Views.{kept_heads, kept_links, kept_marks, wrote_shape, wrote_value}
use Rattle.rows.proofs.index.put.Goals as goal

pub returns : goal.returns
returns g c =
    let m = g.M.Metric in
    let rows = c.args.rows.now in
    let n = c.args.n in
    let d = c.index-rows-n.result in
    record {
      same = wrote_shape rows n _;
      held = wrote_value rows n m.means _ ∙ ap (set (values m.means rows) n) c.unit-row.ensures;
      noted = kept_marks rows n _ d c.requires refl;
      head = kept_heads rows n _ d c.requires refl;
      link = kept_links rows n _ d c.requires refl;
    }
