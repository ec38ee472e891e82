-- What a tree in its table means, and what its answers say of it. Assumes nothing.
use Rattle.std.specs.Prelude.{◌≡◌, ℕ, ◌<◌, ◌≤◌, true, [], ◌∷◌, length, Some, None, Option, ◌≢◌, slice_index_or}
use Rattle.profile.specs.declared.tree.Tree.{Tree}
use Rattle.profile.specs.declared.tree.TreeRow.{TreeRow}
use Rattle.metrics.specs.Measures.{Measure}
use Rattle.model.specs.Positions.{Path}
use Rattle.model.specs.Trees.{Tree as Meant}
use Rattle.rows.specs.Shapes.{shapes, blank}
use Rattle.rows.specs.Cells.{values}
use Rattle.rows.specs.Reading.{context}
use Rattle.rows.specs.Flats.{tree_reading}

-- the tree that the rows in use show; the open count is the depth of the row at which the open path ends
abbrev pub tree_view : {M V : Type 0} → Measure V → (M → V) → Tree M → Meant V
tree_view m means t = tree_reading m (shapes t.table.rows.now) (values means t.table.rows.now) t.table.count t.strays (slice_index_or (shapes t.table.rows.now) t.current blank).depth

-- the path that the row k stands for
abbrev pub row_path : {M : Type 0} → Tree M → ℕ → Path
row_path t k = (context (shapes t.table.rows.now) k).path

-- What holds of every tree in its table: there is a root, each path has a row, and no two rows have the same path.
pub record Whole {M V : Type 0} (m : Measure V) (means : M → V) (t : Tree M) : Type 0 where
  pub some : 0 < t.table.count
  pub there : (k : ℕ) → k < t.table.count → (tree_view m means t).row (row_path t k) ≡ true
  pub each : (q : Path) → (tree_view m means t).row q ≡ true → (k : ℕ) × (k < t.table.count) × (row_path t k ≡ q)
  pub apart : (j k : ℕ) → j < t.table.count → k < t.table.count → row_path t j ≡ row_path t k → j ≡ k
  pub shallow : (k : ℕ) → k < t.table.count → length (row_path t k) ≤ 512

-- x tells of the row k: its function and parent, which give its path, and its value
pub record TellsRow {M V : Type 0} (m : Measure V) (means : M → V) (t : Tree M) (k : ℕ) (x : TreeRow M) : Type 0 where
  pub within : k < t.table.count
  -- the root is row 0, has function 0 and itself as parent
  pub root : row_path t k ≡ [] → (k ≡ 0) × (x.function ≡ 0) × (x.parent ≡ k)
  -- any other has the parent's path, followed by its own function
  pub child : (row_path t k ≢ []) → (x.parent < k) × (row_path t k ≡ x.function ∷ row_path t x.parent)
  pub value : means x.value ≡ (tree_view m means t).value (row_path t k)

-- the row of that number, none beyond the rows
abbrev pub AnswersRow : {M V : Type 0} → Measure V → (M → V) → Tree M → ℕ → Option (TreeRow M) → Type 0
AnswersRow m means t k None = t.table.count ≤ k
AnswersRow m means t k (Some x) = TellsRow m means t k x
