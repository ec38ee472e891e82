use Rattle.std.proofs.Common.{◌≡◌, ◌-◌, ◌<◌, ◌≢◌, ◌++◌, length, get_or, drop, sym, ap, ◌∙◌, arith, length-take, get_or-set_other, get_or-set_same, below_more}
use lib.ListN.{get_or-append}
use Rattle.std.proofs.lemmas.List.{length-map, map-set, map-append, drop-map, get_or-append_right, get_or-drop}
use Rattle.rows.specs.Columns.{meanings}
use Rattle.rows.proofs.Views.{read_value}
use Rattle.rows.proofs.table.Table.copy_first.Goals as goal

pub loop-k-preserved : goal.loop-k-preserved
loop-k-preserved g c =
    let m = g.M.Metric in
    let none = m.measure.none in
    let k = c.loop-k.k in
    let col = c.loop-k.place-items in
    let i = c.loop-k.invariant in
    let h : k < length (meanings m.means col) = rw length-map (omega (arith, length-take c.args.n c.args.column.now, c.requires.long)) in
    let e = map-set m.means col k _ in
    below_more _ _
    (λ j l. let ne : j ≢ k = omega arith in ap (λ u. get_or u j none) e ∙ get_or-set_other (meanings m.means col) k j _ none ne ∙ i j l)
    (ap (λ u. get_or u k none) e ∙ get_or-set_same (meanings m.means col) k _ none h ∙ read_value c.args.self.now.rows.now k m.means c.index-self-k.result none (omega (arith, length-take c.args.n c.args.column.now, c.requires.fits, c.requires.long)))

pub returns : goal.returns
returns g c =
    let m = g.M.Metric in
    let none = m.measure.none in
    let n = c.args.n in
    let items = meanings m.means c.loop-k.place-items in
    let col = meanings m.means c.args.column.now in
    let long : length items ≡ n = rw length-map (omega (arith, length-take n c.args.column.now, c.requires.long)) in
    let e : meanings m.means (c.loop-k.place-items ++ drop n c.args.column.now) ≡ items ++ drop n col = map-append m.means c.loop-k.place-items (drop n c.args.column.now) ∙ ap (λ u. items ++ u) (sym (drop-map m.means n c.args.column.now)) in
    record {
      copied = λ k h. ap (λ u. get_or u k none) e ∙ get_or-append items (drop n col) none k (omega (arith, long)) ∙ c.loop-k.invariant k (omega (arith, length-take n c.args.column.now, c.requires.long));
      rest = λ k h. ap (λ u. get_or u k none) e ∙ get_or-append_right items (drop n col) n k none long h ∙ get_or-drop n col (k - n) none ∙ ap (λ j. get_or col j none) (omega arith);
    }
