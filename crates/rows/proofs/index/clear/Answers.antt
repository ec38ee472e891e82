use Rattle.std.proofs.Common.{◌<◌, ◌≢◌, length, get_or, refl, ap, ◌∙◌, arith, get_or-set_other, get_or-set_same, below_more}
use Rattle.rows.specs.Cells.{heads}
use Rattle.rows.proofs.Views.{kept_marks, kept_shapes, kept_values, wrote_head, long_heads}
use Rattle.rows.proofs.index.clear.Goals as goal

pub loop-row-preserved : goal.loop-row-preserved
loop-row-preserved g c =
    let m = g.M.Metric in
    let v = c.loop-row.invariant in
    let rows = c.loop-row.rows in
    let i = c.loop-row.row-index in
    let d = c.row-item.result in
    let h : i < length rows = omega arith in
    let room : i < length (heads rows) = omega (arith, long_heads rows) in
    let e = wrote_head rows i _ in (
      kept_shapes rows i _ d h refl ∙ v.0,
      kept_values rows i m.means _ d h refl ∙ v.1,
      kept_marks rows i _ d h refl ∙ v.2,
      below_more _ _
          (λ k h. let ne : k ≢ i = omega arith in ap (λ u. get_or u k 0) e ∙ get_or-set_other (heads rows) i k 0 0 ne ∙ v.3 k h)
          (ap (λ u. get_or u i 0) e ∙ get_or-set_same (heads rows) i 0 0 room),
    )
