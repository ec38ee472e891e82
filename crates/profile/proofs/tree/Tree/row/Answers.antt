use Rattle.std.proofs.Common.{◌∷◌, get_or, sym, ap, ◌∙◌, arith}
use Rattle.model.specs.Positions.{Position}
use Rattle.rows.specs.declared.row.Shape.{Shape}
use Rattle.rows.specs.Shapes.{shapes, blank}
use Rattle.rows.specs.Cells.{values}
use Rattle.rows.specs.Reading.{context}
use Rattle.rows.proofs.Sounds.{whole_table}
use Rattle.profile.proofs.Telling.{root_row, named_row, child_row, only_root, path_value}
use Rattle.profile.proofs.tree.Tree.row.Goals as goal

pub returns : goal.returns
returns g c =
    let m = g.M.Metric in
    let a = c.args.self.now in
    let s = shapes a.table.rows.now in
    let v = values m.means a.table.rows.now in
    let n = a.table.count in
    let k = c.args.number in
    let t = whole_table a.sound in
    let h = c.in_ok-shape.ensures.0 in
    let fn = ap (λ (x : Shape). x.function) c.in_ok-shape.ensures.1 in
    let pa = c.from.ensures ∙ ap (λ (x : Shape). x.parent) c.in_ok-shape.ensures.1 in
    record {
      within = h;
      root = λ e. let r = root_row s n 0 t k h e in (only_root s n t k h r.0, fn ∙ r.0, pa ∙ r.1);
      child = λ f.
          let r = child_row s n 0 t k h (named_row s n 0 t k h f) in
          (omega (arith, pa, r.0), ap (λ (x : Position). x.path) r.1 ∙ sym (ap (λ p. (get_or s k blank).function ∷ (context s p).path) pa) ∙ sym (ap (λ f. f ∷ (context s c.from.result).path) fn));
      value = c.in_ok-shape.ensures.2 ∙ sym (path_value s n t g.met.M.Metric.lawful v k h);
    }
