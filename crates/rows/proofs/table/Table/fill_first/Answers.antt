use Rattle.std.proofs.Common.{◌≡◌, suc, ◌-◌, ◌≤◌, ◌≢◌, length, get_or, refl, ap, ◌∙◌, subst, arith, get_or-set_other}
use Rattle.std.proofs.lemmas.List.{length-map}
use Rattle.rows.specs.Shapes.{Shape, shapes, blank}
use Rattle.rows.specs.Cells.{values}
use Rattle.rows.specs.Columns.{meanings, handed, Filling}
use Rattle.rows.proofs.Sounds.{some}
use Rattle.rows.proofs.Columns.{fill_start, fill_step, fill_end, parent_low}
use Rattle.rows.proofs.table.Table.fill_first.Goals as goal

pub loop-i-init : goal.loop-i-init
loop-i-init g c =
    let m = g.M.Metric in
    let rows = c.args.self.now.rows.now in
    let col = meanings m.means c.copy_first.new.column in
    let l : c.args.n ≤ length col = rw length-map (omega arith) in
    (fill_start (shapes rows) c.args.n c.requires.tree g.met.M.Metric.lawful (values m.means rows) col l c.copy_first.ensures.copied, (λ k h. refl), some _ _ _ c.requires.tree, omega arith)

pub loop-i-preserved : goal.loop-i-preserved
loop-i-preserved g c =
    let m = g.M.Metric in
    let none = m.measure.none in
    let rows = c.args.self.now.rows.now in
    let s = shapes rows in
    let v = values m.means rows in
    let n = c.args.n in
    let r = c.loop-i.i - 1 in
    let col = meanings m.means c.loop-i.column in
    let col' = meanings m.means c.hand_up.new.column in
    let i = c.loop-i.invariant in
    let e : c.loop-i.i ≡ suc r = omega arith in
    let p = (get_or s r blank).parent in
    let ep : c.from.result ≡ p = c.from.ensures ∙ ap (λ (x : Shape). x.parent) c.look.ensures in
    let ec : col' ≡ handed m.measure col p r = c.hand_up.ensures ∙ ap (λ k. handed m.measure col k r) ep in
    let low = parent_low s n c.requires.tree r (omega (arith, i.3)) in (
      fill_step s n c.requires.tree g.met.M.Metric.lawful v col col' r (omega arith) (omega (arith, i.3)) (subst (λ k. Filling m.measure s v col n k) e i.0) ec,
      (λ k h. let ne : k ≢ p = omega (arith, low, i.3) in ap (λ u. get_or u k none) ec ∙ get_or-set_other col p k (m.measure.join (get_or col p none) (get_or col r none)) none ne ∙ i.1 k h),
      omega arith,
      omega (arith, i.3),
    )

pub returns : goal.returns
returns g c =
    let m = g.M.Metric in
    let rows = c.args.self.now.rows.now in
    let s = shapes rows in
    let v = values m.means rows in
    let n = c.args.n in
    let col = meanings m.means c.loop-i.column in
    let i = c.loop-i.invariant in
    let e : c.loop-i.i ≡ 1 = omega (arith, i.2) in
    record {
      filled = fill_end s n c.requires.tree g.met.M.Metric.lawful v col (subst (λ k. Filling m.measure s v col n k) e i.0);
      rest = λ k h. i.1 k h ∙ c.copy_first.ensures.rest k h;
    }
