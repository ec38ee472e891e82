use Rattle.std.proofs.Common.{length, sym, ap, ◌∙◌, ap₂}
use Rattle.std.proofs.lemmas.Result.{err_from_is_err_and}
use Rattle.rows.specs.Shapes.{shapes}
use Rattle.rows.specs.Cells.{values}
use Rattle.rows.specs.Reading.{reading}
use Rattle.rows.proofs.Views.{as_long, long, long_values, long_grown}
use Rattle.rows.proofs.Sounds.{whole}
use Rattle.profile.proofs.Giving.{held_path, taken, call_sound, call_taken, call_refused}
use Rattle.profile.proofs.summary.Summary.call.Goals as goal

pub invariant_of-self-2 : goal.invariant_of-self-2
invariant_of-self-2 g c =
    let m = g.M.Metric in
    let a = c.args.self.now in
    let rows = a.table.rows.now in
    let r = c.in_ok-self.ensures.entered in
    let w = call_sound g.met.M.Metric.lawful (shapes rows) (values m.means rows) a.table.count a.level a.current (whole a.sound) (long_values m.means rows) c.args.function (sym c.if-not-is_in_range.ensures) _ _ _ _ r c.in_ok-self.ensures.count in
    record { opened = w.opened; sound = ∣ w ∣₁ }

pub returns : goal.returns
returns g c =
    let m = g.M.Metric in
    let a = c.args.self.now in
    let rows = a.table.rows.now in
    let r = c.in_ok-self.ensures.entered in
    taken {m = m.measure} _ _ _ (call_taken g.met.M.Metric.lawful (shapes rows) (values m.means rows) a.table.count a.level a.current (whole a.sound) (long_values m.means rows) c.args.function (sym c.if-not-is_in_range.ensures) _ _ _ _ r c.in_ok-self.ensures.count _ _ (sym (long rows)) (as_long _ _ (ap length r.shapes ∙ long_grown _ _ _ _ _)))

pub returns-in_err-self : goal.returns-in_err-self
returns-in_err-self g c =
    let m = g.M.Metric in
    let a = c.args.self.now in
    let rows = a.table.rows.now in
    let r = c.in_err-self.ensures.entered in
    let n = c.in_err-self.ensures.count in
    let p = err_from_is_err_and c.from_residual.result c.from_residual.ensures.1 in
    rw (p.1, p.2) (
      held_path _ _ (ap₂ (λ s v. reading m.measure s v c.enter.new.self.count a.current) r.0 r.1 ∙ ap (λ k. reading m.measure (shapes rows) (values m.means rows) k a.current) n) n (as_long _ _ (ap length r.0)),
      call_refused g.met.M.Metric.lawful (shapes rows) (values m.means rows) a.table.count a.level a.current (whole a.sound) (long_values m.means rows) c.args.function (sym c.if-not-is_in_range.ensures) _ c.in_err-self.field-0.0 (sym (long rows)) r.2,
    )
