use Rattle.std.proofs.Common.{◌≡◌, ◌<◌, ◌≤◌, ◌++◌, length, take, drop, sym, ◌∙◌, subst, arith}
use lib.Seq.{take-append-le}
use Rattle.std.specs.List.{AllByRecursion}
use Rattle.std.proofs.lemmas.List.{take_all}
use Rattle.report.specs.declared.outline.Line.{Line}
use Rattle.printing.proofs.Rows.{drawn_below}
use Rattle.printing.proofs.order_of.Goals as goal

pub returns-in-Ok : goal.returns-in-Ok
returns-in-Ok c =
    let s = c.deref.result.now in
    let col = c.outline.new.column in
    let v = c.in_ok-order.order in
    let n = c.args.tree.now.table.count in
    let ls : length s ≡ n = c.deref.ensures.len ∙ c.in_ok-shape.ensures.1 in
    let lo : v.len ≡ n = c.in_ok-order.ensures.len ∙ c.len.ensures ∙ c.in_ok-shape.ensures.1 in
    let k = drawn_below s c.as_mut_slice.result.now col c.in-Ok.ensures.answers.0.rooted.some (c.as_mut_slice.ensures.len ∙ lo ∙ sym ls) c.in-Ok.ensures.drawn in
    let l : v.len ≤ length col = omega (arith, k.0, ls, lo) in
    let e : take v.len (col ++ drop (length col) v.items) ≡ col = rw take-append-le (take_all v.len col (omega (arith, k.0, ls, lo))) in
    (lo, subst (λ ls. AllByRecursion (λ (x : Line). x.row < n) ls) (sym e) (subst (λ i. AllByRecursion (λ (x : Line). x.row < i) col) ls k.1))
