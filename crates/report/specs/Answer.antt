-- What `outline` answers, and the working tree that it makes.
use Rattle.std.specs.Prelude.{◌≡◌, ℕ, ◌<◌, ◌≤◌, List, length, drop, Ok, Err, vec_items, vec_len, Result}
use Rattle.rows.specs.declared.shape.ShapeRow.{ShapeRow}
use Rattle.report.specs.declared.fault.OutlineError.{OutlineError}
use Rattle.report.specs.declared.fault.OutlineError.TheVariants.{NotAShape, ShortColumn, NoMemory}
use Rattle.report.specs.declared.tree.Tree.{Tree}
use Rattle.rows.specs.ShapeColumn.{IsShape, depth_of}
use Rattle.report.specs.Order.{Arranged, Begins}
use Rattle.report.specs.Node.{node_at}
use Rattle.report.specs.Outline.{led_by}

-- what a refusal to make the working tree says of the shape
abbrev pub Unmade : List ShapeRow → OutlineError → Type 0
Unmade s NotAShape = IsShape s → ⊥
Unmade s ShortColumn = ⊥
Unmade s NoMemory = Unit {0}

-- what a refusal says of the shape and of the column's length; want of memory may be found before the rows are known to be a shape
abbrev pub Refuses : List ShapeRow → ℕ → OutlineError → Type 0
Refuses s places NotAShape = IsShape s → ⊥
Refuses s places ShortColumn = IsShape s × (places < length s)
Refuses s places NoMemory = Unit {0}

-- an answer fits the shape and the column's length
abbrev pub Answers : {X : Type 0} → List ShapeRow → ℕ → Result X OutlineError → Type 0
Answers s places (Ok x) = IsShape s × (length s ≤ places)
Answers s places (Err e) = Refuses s places e

-- the tree is the shape's: its rows in order, and in each row's node its depth and where its children begin
pub record TreeOf (s : List ShapeRow) (t : Tree) : Type 0 where
  pub order : Arranged s (vec_items t.order)
  pub long : vec_len t.nodes ≡ length s
  pub depths : (i : ℕ) → i < length s → (node_at (vec_items t.nodes) i).depth ≡ depth_of s i
  pub starts : (i : ℕ) → i < length s → Begins (vec_items t.order) i (node_at (vec_items t.nodes) i).start

-- the rows of the order from the place on where the children of a row begin, as long as they are its children
abbrev pub led_from : List ShapeRow → Tree → ℕ → List ℕ
led_from s t r = led_by s r (drop (node_at (vec_items t.nodes) r).start (vec_items t.order))
