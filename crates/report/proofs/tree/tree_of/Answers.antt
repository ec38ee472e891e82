use Rattle.std.proofs.Common.{◌≡◌, ◌≤◌, ◌++◌, All, length, take, drop, vec_items, sym, refl, ap, ◌∙◌, subst, arith}
use Rattle.std.proofs.Math.Seq.{take-append_seam}
use Rattle.std.proofs.lemmas.Bool.{false≢true}
use Rattle.report.specs.Order.{Begins, Twins}
use Rattle.report.specs.Node.{node_at}
use Rattle.report.proofs.Apart.{rows_apart}
use Rattle.report.proofs.Depths.{rows_shallow}
use Rattle.report.proofs.tree.tree_of.Goals as goal

pub returns : goal.returns
returns c =
    let s = c.args.shape.now in
    let order = vec_items c.in_ok-order.order in
    let nodes = vec_items c.in_ok-nodes.nodes in
    let rooted = c.if-not-is_rooted.ensures.0 refl in
    let long : length nodes ≡ length s = omega (arith, c.in_ok-nodes.ensures.long, c.in_ok-nodes.nodes.ok.0) in
    let now = c.find_starts.new.nodes in
    let len : c.in_ok-nodes.nodes.len ≡ length now = omega arith in
    let is = ap (λ n. take n (now ++ drop (length now) nodes)) len ∙ take-append_seam now (drop (length now) nodes) in (
      record {
        rooted = rooted;
        shallow = rows_shallow s nodes long c.in_ok-nodes.ensures.depths (subst (All (λ node. node.depth ≤ 512)) c.deref.ensures.value (c.if-not-is_shallow.ensures.0 refl));
        apart = rows_apart s order rooted c.in_ok-order.ensures (λ t. false≢true (c.if-has_twins.ensures.1 (subst Twins (sym c.deref-2.ensures.value) t)));
      },
      record {
        order = c.in_ok-order.ensures;
        long = c.in_ok-nodes.ensures.long;
        depths = λ i h. ap (λ ps. (node_at ps i).depth) is ∙ c.find_starts.ensures.depths i (omega arith) ∙ ap (λ ps. (node_at ps i).depth) c.deref_mut.ensures.value ∙ c.in_ok-nodes.ensures.depths i (omega arith);
        starts = λ i h. subst (λ ps. Begins order i (node_at ps i).start) (sym is) (subst (λ o. Begins o i (node_at now i).start) c.deref-3.ensures.value (c.find_starts.ensures.starts i (omega arith)));
      },
    )
