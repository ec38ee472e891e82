use Rattle.std.proofs.Common.{◌≡◌, ◌+◌, ◌-◌, ◌≤◌, length, sym, refl, ap, ◌∙◌, arith}
use Rattle.rows.specs.declared.row.Shape.{Shape}
use Rattle.rows.specs.Shapes.{shapes}
use Rattle.rows.specs.Reading.{context}
use Rattle.rows.specs.Cells.{values}
use Rattle.profile.specs.View.{view}
use Rattle.model.specs.Summaries.{added}
use Rattle.trace.specs.declared.record.Record.TheVariants.{Unwind}
use Rattle.rows.proofs.Views.{long_values}
use Rattle.rows.proofs.Sounds.{whole}
use Rattle.rows.proofs.Readings.{depth_is}
use Rattle.rows.proofs.Bridge.{unwound_none}
use Rattle.profile.proofs.Giving.{taken, path_low, along, never, unwound_long}
use Rattle.profile.proofs.summary.Summary.unwind.Goals as goal

pub returns-then-from-room : goal.returns-then-from-room
returns-then-from-room g c =
    let m = g.M.Metric in
    let a = c.args.self.now in
    let rows = a.table.rows.now in
    let d = sym (ap (λ (x : Shape). x.depth) c.at_open-deep.ensures) in
    let p = depth_is (shapes rows) a.current in
    let low = path_low g.met.M.Metric.lawful (shapes rows) (values m.means rows) a.table.count a.level a.current (whole a.sound) (long_values m.means rows) in
    (refl, (sym c.if-not-is_in_range.ensures, omega (arith, unwound_long c.args.count (context (shapes rows) a.current)), omega arith))

pub loop-init : goal.loop-init
loop-init g c =
    let m = g.M.Metric in
    let a = c.args.self.now in
    let rows = a.table.rows.now in
    record { is = unwound_none g.met.M.Metric.lawful (shapes rows) (values m.means rows) a.table.count a.level a.current (whole a.sound); count = omega arith; room = refl }

pub loop-preserved : goal.loop-preserved
loop-preserved g c =
    let m = g.M.Metric in
    let a = c.args.self.now in
    let rows = a.table.rows.now in
    let d = sym (ap (λ (x : Shape). x.depth) c.at_open-deep.ensures) in
    let p = depth_is (shapes rows) a.current in
    let low = path_low g.met.M.Metric.lawful (shapes rows) (values m.means rows) a.table.count a.level a.current (whole a.sound) (long_values m.means rows) in
    let fits : a.table.count + (c.args.count - length (context (shapes rows) a.current).path) ≤ length rows = omega (arith, c.if-from-room.false, c.from.ensures, c.room.ensures, c.count.ensures) in
    along m.measure (view m.measure m.means a) c.args.count low fits c.loop.counter (view m.measure m.means c.loop.self) (view m.measure m.means c.return_.new.self) (omega arith) c.loop.invariant c.in_ok-return_.ensures

pub returns-in_err-return_ : goal.returns-in_err-return_
returns-in_err-return_ g c =
    let m = g.M.Metric in
    let a = c.args.self.now in
    let rows = a.table.rows.now in
    let d = sym (ap (λ (x : Shape). x.depth) c.at_open-deep.ensures) in
    let p = depth_is (shapes rows) a.current in
    let low = path_low g.met.M.Metric.lawful (shapes rows) (values m.means rows) a.table.count a.level a.current (whole a.sound) (long_values m.means rows) in
    let fits : a.table.count + (c.args.count - length (context (shapes rows) a.current).path) ≤ length rows = omega (arith, c.if-from-room.false, c.from.ensures, c.room.ensures, c.count.ensures) in
    absurd (never m.measure (view m.measure m.means a) c.args.count low fits c.loop.counter (view m.measure m.means c.loop.self) (view m.measure m.means c.return_.new.self) c.in_err-return_.field-0.0 (omega arith) c.loop.invariant c.in_err-return_.ensures)

pub returns : goal.returns
returns g c =
    let m = g.M.Metric in
    let a = c.args.self.now in
    let rows = a.table.rows.now in
    let d = sym (ap (λ (x : Shape). x.depth) c.at_open-deep.ensures) in
    let p = depth_is (shapes rows) a.current in
    let low = path_low g.met.M.Metric.lawful (shapes rows) (values m.means rows) a.table.count a.level a.current (whole a.sound) (long_values m.means rows) in
    let fits : a.table.count + (c.args.count - length (context (shapes rows) a.current).path) ≤ length rows = omega (arith, c.if-from-room.false, c.from.ensures, c.room.ensures, c.count.ensures) in
    let e : c.loop.counter ≡ c.args.count = omega arith in
    let w = c.loop.invariant in
    taken {m = m.measure} _ _ _ (record {
      ranged = sym c.if-not-is_in_range.ensures;
      shallow = omega (arith, unwound_long c.args.count (context (shapes rows) a.current));
      fits = fits;
      is = w.is ∙ ap (λ k. added m.measure (view m.measure m.means a).is (Unwind k)) e;
      count = omega (arith, w.count);
      room = w.room;
    })
