use Rattle.std.proofs.Common.{set, sym, ap, ◌∙◌, ap₂}
use Rattle.std.proofs.lemmas.List.{get_or-map, map-set}
use Rattle.rows.specs.Columns.{meanings}
use Rattle.rows.proofs.column.hand_up.Goals as goal

pub returns : goal.returns
returns g c =
    let m = g.M.Metric in
    let col = c.args.column.now in
    let p = c.args.p in
    let r = c.args.r in
    map-set m.means col p _ ∙ ap (set (meanings m.means col) p) (c.join.ensures ∙ ap₂ m.measure.join
    (ap m.means c.index-column-p.is ∙ sym (get_or-map m.means col p c.index-column-p.result m.measure.none c.requires.0))
    (ap m.means c.index-column-r.is ∙ sym (get_or-map m.means col r c.index-column-r.result m.measure.none c.requires.1)))
