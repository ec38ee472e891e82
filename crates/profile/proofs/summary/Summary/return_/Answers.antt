use Rattle.std.proofs.Common.{◌≡◌, ◌+◌, ◌<◌, length, set, sym, refl, ap, ◌∙◌, subst, arith, length-set}
use Rattle.rows.specs.declared.row.Shape.{Shape}
use Rattle.rows.specs.Shapes.{shapes, root}
use Rattle.rows.specs.Cells.{values}
use Rattle.rows.specs.Sound.{Sound}
use Rattle.trace.specs.declared.record.Record.TheVariants.{Return}
use Rattle.rows.proofs.Views.{as_long, long, long_values}
use Rattle.rows.proofs.Sounds.{whole, narrow}
use Rattle.profile.proofs.Giving.{Taken, taken, held, child_sound, child_taken, root_sound, root_taken, root_refused}
use Rattle.profile.proofs.summary.Summary.return_.Goals as goal

pub invariant_of-self : goal.invariant_of-self
invariant_of-self g c =
    let m = g.M.Metric in
    let a = c.args.self.now in
    let rows = a.table.rows.now in
    let f = sym (ap (λ (x : Shape). x.function) c.at_open-open.ensures) in
    let p = sym (c.from-self.ensures ∙ ap (λ (x : Shape). x.parent) c.at_open-open.ensures) in
    let w = subst (λ x. Sound (shapes rows) a.table.count a.level x) p (child_sound g.met.M.Metric.lawful (shapes rows) (values m.means rows) a.table.count a.level a.current (whole a.sound) (long_values m.means rows) (omega (arith, f))) in
    record { opened = w.opened; sound = ∣ w ∣₁ }

pub returns-then-open-ne0 : goal.returns-then-open-ne0
returns-then-open-ne0 g c =
    let m = g.M.Metric in
    let a = c.args.self.now in
    let rows = a.table.rows.now in
    let f = sym (ap (λ (x : Shape). x.function) c.at_open-open.ensures) in
    let p = sym (c.from-self.ensures ∙ ap (λ (x : Shape). x.parent) c.at_open-open.ensures) in
    taken {m = m.measure} _ _ _ (subst (λ x. Taken m.measure (held m.measure (shapes rows) (values m.means rows) a.table.count a.current (length rows)) (held m.measure (shapes rows) (values m.means rows) a.table.count x (length rows)) Return) p
    (child_taken g.met.M.Metric.lawful (shapes rows) (values m.means rows) a.table.count a.level a.current (whole a.sound) (long_values m.means rows) (length rows) (sym (long rows)) (omega (arith, f))))

pub returns-then-n-room : goal.returns-then-n-room
returns-then-n-room g c =
    let m = g.M.Metric in
    let a = c.args.self.now in
    let rows = a.table.rows.now in
    let f = sym (ap (λ (x : Shape). x.function) c.at_open-open.ensures) in
    (refl, root_refused g.met.M.Metric.lawful (shapes rows) (values m.means rows) a.table.count a.level a.current (whole a.sound) (long_values m.means rows) (f ∙ c.if-open-ne0.false) (length rows) (sym (long rows)) (omega (arith, long rows, c.room.ensures, c.count-n.ensures)))

pub root-requires : goal.root-requires
root-requires g c = let a = c.args.self.now in omega (arith, narrow _ _ _ (whole a.sound).table, a.table.fits, a.table.few, c.count-n.ensures)

pub overflow_add-self : goal.overflow_add-self
overflow_add-self g c = let a = c.args.self.now in let o = whole a.sound in omega (arith, narrow _ _ _ o.table, a.table.fits, a.table.few)

pub invariant_of-self-2 : goal.invariant_of-self-2
invariant_of-self-2 g c =
    let m = g.M.Metric in
    let a = c.args.self.now in
    let rows = a.table.rows.now in
    let n = a.table.count in
    let after = c.push.new.self.rows.now in
    let f = sym (ap (λ (x : Shape). x.function) c.at_open-open.ensures) in
    let room : n < length (shapes rows) = omega (arith, long rows, c.room.ensures, c.count-n.ensures) in
    let es = c.push.ensures.same ∙ ap (set (shapes rows) n) c.root.ensures ∙ ap (λ k. set (shapes rows) n (root (a.level + 1) k)) c.count-n.ensures in
    let w = root_sound g.met.M.Metric.lawful (shapes rows) (values m.means rows) n a.level a.current (whole a.sound) (long_values m.means rows) (f ∙ c.if-open-ne0.false) room _ es in
    let x = subst (λ k. Sound (shapes after) k (a.level + 1) c.count-n.result) (sym c.push.ensures.count) (subst (λ k. Sound (shapes after) (n + 1) (a.level + 1) k) (sym c.count-n.ensures) w) in
    record { opened = x.opened; sound = ∣ x ∣₁ }

pub returns : goal.returns
returns g c =
    let m = g.M.Metric in
    let a = c.args.self.now in
    let rows = a.table.rows.now in
    let n = a.table.count in
    let after = c.push.new.self.rows.now in
    let f = sym (ap (λ (x : Shape). x.function) c.at_open-open.ensures) in
    let room : n < length (shapes rows) = omega (arith, long rows, c.room.ensures, c.count-n.ensures) in
    let es = c.push.ensures.same ∙ ap (set (shapes rows) n) c.root.ensures ∙ ap (λ k. set (shapes rows) n (root (a.level + 1) k)) c.count-n.ensures in
    let long' : length after ≡ length rows = as_long _ _ (ap length es ∙ length-set (shapes rows) n _) in
    let w = root_taken g.met.M.Metric.lawful (shapes rows) (values m.means rows) n a.level a.current (whole a.sound) (long_values m.means rows) (f ∙ c.if-open-ne0.false) (length rows) (length after) (sym (long rows)) long' room _ _ es c.push.ensures.held in
    let before = held m.measure (shapes rows) (values m.means rows) n a.current (length rows) in
    let s = shapes after in
    let v = values m.means after in
    taken {m = m.measure} _ _ _ (subst (λ k. Taken m.measure before (held m.measure s v k c.count-n.result (length after)) Return) (sym c.push.ensures.count)
    (subst (λ k. Taken m.measure before (held m.measure s v (n + 1) k (length after)) Return) (sym c.count-n.ensures) w))
