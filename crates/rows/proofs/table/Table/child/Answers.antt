use Rattle.std.proofs.Common.{◌≡◌, length, sym, ap, ◌∙◌, ⊎_elim, arith}
use Rattle.rows.specs.Shapes.{Shape, shapes}
use Rattle.rows.specs.Cells.{heads, links}
use Rattle.rows.specs.Index.{chained, slot}
use Rattle.rows.proofs.Views.{long}
use Rattle.rows.proofs.Chains.{whole_index, chase_start, chase_more, chase_falls}
use Rattle.rows.proofs.table.Table.child.Goals as goal

pub loop-next-init : goal.loop-next-init
loop-next-init g c =
    let a = c.args.self.now in
    let rows = a.rows.now in
    let s = shapes rows in
    let e : c.slot_of.result ≡ slot (length s) c.args.up c.args.function = c.slot_of.ensures.is ∙ ap (λ n. slot n c.args.up c.args.function) (sym (long rows)) in
    chase_start s (heads rows) (links rows) a.count c.args.up c.args.function (whole_index a.indexed) (omega (arith, e, long rows, c.slot_of.ensures.within)) (chained c.first_of-next.result) (rw e at c.first_of-next.ensures)

pub loop-next-smaller : goal.loop-next-smaller
loop-next-smaller g c =
    let a = c.args.self.now in
    let rows = a.rows.now in
    chase_falls (shapes rows) (heads rows) (links rows) a.count c.args.up c.args.function (whole_index a.indexed) (chained c.loop-next.next) c.in-Some.i (chained c.next_of-next.result) (ap chained c.in-Some.is) c.loop-next.invariant c.next_of-next.ensures

pub loop-next-preserved : goal.loop-next-preserved
loop-next-preserved g c =
    let a = c.args.self.now in
    let rows = a.rows.now in
    chase_more (shapes rows) (heads rows) (links rows) a.count c.args.up c.args.function (whole_index a.indexed) (chained c.loop-next.next) c.in-Some.i (chained c.next_of-next.result) (ap chained c.in-Some.is) c.loop-next.invariant
    (λ p q. ⊎_elim (λ w. w.1 (ap (λ (x : Shape). x.function) c.look-shape.ensures ∙ q)) (λ w. w (c.from.ensures ∙ ap (λ (x : Shape). x.parent) c.look-shape.ensures ∙ p)) c.else-from-up.either)
    c.next_of-next.ensures
