use Rattle.std.proofs.Common.{◌∷◌, get_or, sym, ap, ◌∙◌, arith}
use Rattle.model.specs.Positions.{at}
use Rattle.rows.specs.declared.row.Shape.{Shape}
use Rattle.rows.specs.Shapes.{shapes, blank}
use Rattle.rows.specs.Cells.{values}
use Rattle.rows.specs.Reading.{context}
use Rattle.rows.proofs.Sounds.{whole}
use Rattle.rows.proofs.Readings.{any_at}
use Rattle.rows.proofs.Listed.{joins_own}
use Rattle.profile.proofs.Telling.{root_row, named_row, child_row}
use Rattle.profile.proofs.summary.Summary.row.Goals as goal

pub returns : goal.returns
returns g c =
    let m = g.M.Metric in
    let a = c.args.self.now in
    let s = shapes a.table.rows.now in
    let v = values m.means a.table.rows.now in
    let n = a.table.count in
    let k = c.args.number in
    let t = (whole a.sound).table in
    let h = c.in_ok-shape.ensures.0 in
    let fn = ap (λ (x : Shape). x.function) c.in_ok-shape.ensures.1 in
    let pa = c.from-2.ensures ∙ ap (λ (x : Shape). x.parent) c.in_ok-shape.ensures.1 in
    record {
      within = h;
      there = any_at m.measure.none s v n k h;
      level = c.from.ensures ∙ ap (λ (x : Shape). x.level) c.in_ok-shape.ensures.1;
      root = λ e. let r = root_row s n a.level t k h e in (fn ∙ r.0, pa ∙ r.1);
      child = λ f.
          let r = child_row s n a.level t k h (named_row s n a.level t k h f) in
          (omega (arith, pa, r.0), r.1 ∙ sym (ap (λ p. at (context s p).level ((get_or s k blank).function ∷ (context s p).path)) pa) ∙ sym (ap (λ f. at (context s c.from-2.result).level (f ∷ (context s c.from-2.result).path)) fn));
      value = c.in_ok-shape.ensures.2 ∙ sym (joins_own g.met.M.Metric.lawful s v n a.level t k n h (omega arith));
    }
