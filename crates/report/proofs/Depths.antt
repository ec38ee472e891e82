-- The depth of a row from that of its parent.
use Rattle.std.proofs.Common.{All, ◌≡◌, ℕ, zero, suc, ◌+◌, ◌-◌, ◌<◌, ◌≤◌, List, length, get_or, take, drop, sym, refl, ap, ◌∙◌, arith}
use Rattle.std.proofs.lemmas.List.{get_or_default, get_or_read_under, get_or-take, get_or-drop}
use Rattle.std.proofs.lemmas.Bool.Decides.{nat_tests}
use Rattle.report.specs.declared.tree.Node.{Node}
use Rattle.report.specs.Node.{no_node, node_at}
use Rattle.rows.specs.declared.shape.ShapeRow.{ShapeRow}
use Rattle.rows.specs.ShapeColumn.{no_row, IsRooted, steps_up, depth_of, parent_at}

pub steps_few : (s : List ShapeRow) (m i : ℕ) → steps_up m s i ≤ m
steps_few s zero i = omega arith
steps_few s (suc m) i = grind (arith, nat_tests, steps_few s m (parent_at s i))

steps_free : (s : List ShapeRow) → IsRooted s → (m n i : ℕ) → i ≤ m → i ≤ n → i < length s → steps_up m s i ≡ steps_up n s i
steps_free s t zero zero i h k l = refl
steps_free s t zero (suc n) zero h k l = refl
steps_free s t zero (suc n) (suc i) h k l = absurd (omega arith)
steps_free s t (suc m) zero zero h k l = refl
steps_free s t (suc m) zero (suc i) h k l = absurd (omega arith)
steps_free s t (suc m) (suc n) zero h k l = refl
steps_free s t (suc m) (suc n) (suc i) h k l =
    let p : parent_at s (suc i) < suc i = t.above (suc i) (omega arith) l in
    let e = steps_free s t m n (parent_at s (suc i)) (omega arith) (omega arith) (omega arith) in
    grind (arith, nat_tests)

pub depth_step : (s : List ShapeRow) → IsRooted s → (i : ℕ) → 0 < i → i < length s → depth_of s i ≡ depth_of s (parent_at s i) + 1
depth_step s t zero h l = absurd (omega arith)
depth_step s t (suc i) h l =
    let p : parent_at s (suc i) < suc i = t.above (suc i) h l in
    let e = steps_free s t i (parent_at s (suc i)) (parent_at s (suc i)) (omega arith) (omega arith) (omega arith) in
    grind (arith, nat_tests)

pub depth_few : (s : List ShapeRow) (i : ℕ) → depth_of s i ≤ i
depth_few s i = steps_few s i i

-- the row that is read behind row 0
row_read : (s : List ShapeRow) (k : ℕ) → k + 1 < length s → get_or (take (length s - 1) (drop 1 s)) k no_row ≡ get_or s (k + 1) no_row
row_read s k h =
    let e : 1 + k ≡ k + 1 = omega arith in
    get_or-take (length s - 1) (drop 1 s) k no_row (omega arith) ∙ get_or-drop 1 s k no_row ∙ ap (λ n. get_or s n no_row) e

-- one more than the depth that is read at place p, where the parent of row k + 1 stands, is the depth of row k + 1
pub above_is : (s : List ShapeRow) → IsRooted s → (nodes : List Node) (len k p : ℕ) (x : Node) → k + 1 < length s → len ≡ length nodes → len ≡ k + 1 → ((i : ℕ) → i < len → (node_at nodes i).depth ≡ depth_of s i) → p ≡ (get_or (take (length s - 1) (drop 1 s)) k no_row).parent → x ≡ get_or nodes p x → x.depth + 1 ≡ depth_of s (k + 1)
above_is s t nodes len k p x h l e each ep read =
    let is : p ≡ parent_at s (k + 1) = ep ∙ ap (λ r. r.parent) (row_read s k h) in
    let above : parent_at s (k + 1) < k + 1 = t.above (k + 1) (omega arith) h in
    let within : p < len = omega arith in
    let d : x.depth ≡ depth_of s p = ap (λ y. y.depth) (get_or_read_under nodes p len x no_node read within l) ∙ each p within in
    ap (λ n. n + 1) (d ∙ ap (depth_of s) is) ∙ sym (depth_step s t (k + 1) (omega arith) h)

-- the depths in the nodes are those of the rows
abbrev pub Depths : List ShapeRow → List Node → Type 0
Depths s nodes = (i : ℕ) → i < length nodes → (node_at nodes i).depth ≡ depth_of s i

pub nodes_shallow : (s : List ShapeRow) (nodes : List Node) → length nodes ≡ length s → Depths s nodes → ((i : ℕ) → i < length s → depth_of s i ≤ 512) → All (λ node. node.depth ≤ 512) nodes
nodes_shallow s nodes l each few k d h =
    let few_k : depth_of s k ≤ 512 = few k (omega arith) in
    let is : (get_or nodes k d).depth ≡ depth_of s k = ap (λ x. x.depth) (get_or_default nodes k d no_node h) ∙ each k h in
    omega arith

pub rows_shallow : (s : List ShapeRow) (nodes : List Node) → length nodes ≡ length s → Depths s nodes → All (λ node. node.depth ≤ 512) nodes → (i : ℕ) → i < length s → depth_of s i ≤ 512
rows_shallow s nodes l each few i h =
    let within : i < length nodes = omega arith in
    let few_i : (node_at nodes i).depth ≤ 512 = few i no_node within in
    omega (arith, each i within)
