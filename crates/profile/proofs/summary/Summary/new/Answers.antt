use Rattle.std.proofs.Common.{◌≡◌, ◌<◌, length, get_or, set, ap, ◌∙◌, ap₂, arith, length-set, get_or-set_same}
use Rattle.rows.specs.Shapes.{shapes, blank}
use Rattle.rows.specs.Cells.{values}
use Rattle.rows.specs.Reading.{reading}
use Rattle.rows.proofs.Views.{as_long, long, long_values}
use Rattle.rows.proofs.Bridge.{reading_new}
use Rattle.profile.proofs.Giving.{held_path}
use Rattle.profile.proofs.summary.Summary.new.Goals as goal

pub returns : goal.returns
returns g c =
    let m = g.M.Metric in
    let none = m.measure.none in
    let rows = c.new-table.result.rows.now in
    let after = c.push.new.self.rows.now in
    let h : 0 < length (shapes rows) = omega (arith, long rows, as_long _ _ (ap length c.new-table.ensures.same), c.requires.some) in
    let hv : 0 < length (values m.means rows) = omega (arith, long_values m.means rows, h) in
    let one : c.push.new.self.count ≡ 1 = omega (arith, c.push.ensures.count, c.new-table.ensures.none) in
    let s = c.push.ensures.same ∙ ap₂ (set (shapes rows)) c.new-table.ensures.none c.root.ensures in
    let v = c.push.ensures.held ∙ ap (λ k. set (values m.means rows) k none) c.new-table.ensures.none in
    let es : get_or (shapes after) 0 blank ≡ blank = ap (λ x. get_or x 0 blank) s ∙ get_or-set_same (shapes rows) 0 blank blank h in
    let ev : get_or (values m.means after) 0 none ≡ none = ap (λ x. get_or x 0 none) v ∙ get_or-set_same (values m.means rows) 0 none none hv in
    held_path _ _ (ap (λ n. reading m.measure (shapes after) (values m.means after) n 0) one ∙ reading_new g.met.M.Metric.lawful (shapes after) (values m.means after) es ev) one
    (as_long _ _ (ap length s ∙ length-set (shapes rows) 0 blank) ∙ as_long _ _ (ap length c.new-table.ensures.same))
