use Rattle.std.proofs.Common.{◌<◌, length, get_or, set, sym, ap, ◌∙◌, arith}
use Rattle.rows.specs.Shapes.{shapes}
use Rattle.rows.specs.Cells.{values}
use Rattle.rows.specs.Reading.{reading}
use Rattle.rows.proofs.Views.{as_long, long_values}
use Rattle.rows.proofs.Sounds.{whole}
use Rattle.rows.proofs.Bridge.{sampled}
use Rattle.profile.proofs.Giving.{taken, path_low}
use Rattle.profile.proofs.summary.Summary.sample.Goals as goal

pub returns : goal.returns
returns g c =
    let m = g.M.Metric in
    let laws = g.met.M.Metric.lawful in
    let a = c.args.self.now in
    let rows = a.table.rows.now in
    let n = a.table.count in
    let s = shapes rows in
    let v = values m.means rows in
    let o = whole a.sound in
    let h : a.current < length v = omega (arith, long_values m.means rows, o.opened, o.table.fits) in
    let kept = c.book.ensures.same in
    let booked = c.book.ensures.held in
    taken {m = m.measure} _ _ _ (record {
      ranged = sym c.if-not-is_in_range.ensures;
      shallow = path_low laws s v n a.level a.current o (long_values m.means rows);
      fits = omega arith;
      is = ap (λ k. reading m.measure (shapes c.book.new.self.rows.now) (values m.means c.book.new.self.rows.now) k a.current) c.book.ensures.count
          ∙ ap (λ x. reading m.measure x (values m.means c.book.new.self.rows.now) n a.current) kept
          ∙ sampled laws s v n a.level a.current o _ c.args.sample h (booked ∙ ap (λ w. set v a.current (m.measure.join (get_or v a.current m.measure.none) w)) c.of_sample.ensures);
      count = omega (arith, c.book.ensures.count);
      room = as_long _ _ (ap length kept);
    })
