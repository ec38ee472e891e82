-- What the outline reads of the tree: where a row's children begin, the children from there on, and a row's depth.
use Rattle.std.proofs.Common.{◌≡◌, ℕ, ◌+◌, ◌-◌, ◌<◌, List, length, get_or, take, drop, vec_items, vec_len, ap, ◌∙◌, arith}
use Rattle.std.proofs.lemmas.List.{get_or_read_under, take_rest}
use Rattle.rows.specs.declared.shape.ShapeRow.{ShapeRow}
use Rattle.report.specs.declared.order.Entry.{Entry}
use Rattle.report.specs.declared.tree.Node.{Node}
use Rattle.report.specs.declared.tree.Tree.{Tree}
use Rattle.report.specs.Answer.{TreeOf, led_from}
use Rattle.report.specs.Node.{no_node, node_at}
use Rattle.rows.specs.ShapeColumn.{IsShape}
use Rattle.report.specs.Size.{size_of, sizes_of}
use Rattle.report.proofs.Drawn.{led_children}
use Rattle.report.proofs.Sizes.{sizes_are}

-- the node that is read for a row
pub node_read : (s : List ShapeRow) (t : Tree) → TreeOf s t → (r i : ℕ) (x : Node) → r < length s → i ≡ r → x ≡ get_or (vec_items t.nodes) i x → x ≡ node_at (vec_items t.nodes) r
node_read s t tree r i x h e read =
    let l : i < vec_len t.nodes = omega (arith, tree.long) in
    get_or_read_under (vec_items t.nodes) i (vec_len t.nodes) x no_node read l t.nodes.ok.0 ∙ ap (node_at (vec_items t.nodes)) e

-- the entries that are read from a row's start on
pub rest_read : (s : List ShapeRow) (t : Tree) → TreeOf s t → (r i : ℕ) (x : Node) (n : ℕ) (entries : List Entry) → r < length s → i ≡ r → x ≡ get_or (vec_items t.nodes) i x → n ≡ x.start → entries ≡ vec_items t.order → take (length entries - n) (drop n entries) ≡ drop (node_at (vec_items t.nodes) r).start (vec_items t.order)
rest_read s t tree r i x n entries h ei read en e =
    ap (λ k. take (length entries - k) (drop k entries)) en
    ∙ ap (λ o. take (length o - x.start) (drop x.start o)) e
    ∙ take_rest (vec_items t.order) x.start
    ∙ ap (λ y. drop y.start (vec_items t.order)) (node_read s t tree r i x h ei read)

-- a row's line and those of its children are as many as the rows at or below it
pub row_sizes : (s : List ShapeRow) (t : Tree) → IsShape s → TreeOf s t → (r : ℕ) → r < length s → 1 + sizes_of s (led_from s t r) ≡ size_of s r
row_sizes s t shape tree r h =
    let order = vec_items t.order in
    let start = (node_at (vec_items t.nodes) r).start in
    sizes_are s order shape.rooted tree.order r start h (led_children s order r start shape tree.order (tree.starts r h)).all
