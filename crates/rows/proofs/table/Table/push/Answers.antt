use Rattle.std.proofs.Common.{length, get_or, sym, ap, ◌∙◌, subst, arith, length-set, get_or-set_other}
use Rattle.rows.specs.Shapes.{shapes, blank}
use Rattle.rows.specs.Cells.{heads, links}
use Rattle.rows.specs.Index.{Indexed}
use Rattle.rows.proofs.Chains.{whole_index, indexed_alike}
use Rattle.rows.proofs.table.Table.push.Goals as goal

pub invariant_of-self-clause-indexed : goal.invariant_of-self-clause-indexed
invariant_of-self-clause-indexed g c =
    let rows = c.args.self.now.rows.now in
    let s = shapes rows in
    let n = c.args.self.now.count in
    let x = c.args.shape in
    let a = c.put.ensures in
    let s' = shapes c.put.new.rows in
    let all = indexed_alike s s' n (ap length a.same ∙ length-set s n x) (λ k l. ap (λ u. get_or u k blank) a.same ∙ get_or-set_other s n k x blank (omega arith)) (heads rows) (links rows) (whole_index c.args.self.now.indexed) in
    ∣ subst (λ u. Indexed s' u (links c.put.new.rows) n) (sym a.head) (subst (λ u. Indexed s' (heads rows) u n) (sym a.link) all) ∣₁
