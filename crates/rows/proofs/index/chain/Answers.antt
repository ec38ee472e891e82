use Rattle.std.proofs.Common.{◌<◌, ◌+◌, set, sym, refl, ap, ◌∙◌, subst, length-set}
use Rattle.rows.specs.Cells.{links}
use Rattle.rows.proofs.Views.{kept_heads, kept_links, kept_marks, kept_shapes, kept_values, read_head, wrote_head, wrote_link}
use Rattle.rows.proofs.index.chain.Goals as goal

pub returns : goal.returns
returns g c =
    let m = g.M.Metric in
    let rows = c.args.rows.now in
    let n = c.args.n in
    let h = c.args.h in
    let q = c.requires in
    let d = c.index-rows-n.result in
    let d' = c.index-rows-h-2.result in
    record {
      same = kept_shapes _ h _ d' (subst (λ k. h < k) (sym (length-set rows n _)) q.place) refl ∙ kept_shapes rows n _ d q.row refl;
      held = kept_values _ h m.means _ d' (subst (λ k. h < k) (sym (length-set rows n _)) q.place) refl ∙ kept_values rows n m.means _ d q.row refl;
      noted = kept_marks _ h _ d' (subst (λ k. h < k) (sym (length-set rows n _)) q.place) refl ∙ kept_marks rows n _ d q.row refl;
      head = wrote_head _ h _ ∙ ap (λ u. set u h (n + 1)) (kept_heads rows n _ d q.row refl);
      link = kept_links _ h _ d' (subst (λ k. h < k) (sym (length-set rows n _)) q.place) refl
          ∙ wrote_link rows n _ ∙ ap (set (links rows) n) (read_head rows h c.index-rows-h.result q.place);
    }
