-- What the columns that a tree fills hold afterwards. Assumes nothing.
use Rattle.std.specs.Prelude.{◌≡◌, ℕ, ◌<◌, ◌≤◌, List, length, take, Ok, Err, Result}
use Rattle.profile.specs.declared.tree.Tree.{Tree}
use Rattle.profile.specs.declared.tree.ShortColumn.{ShortColumn}
use Rattle.rows.specs.declared.shape.ShapeRow.{ShapeRow}
use Rattle.metrics.specs.Measures.{Measure}
use Rattle.rows.specs.Shapes.{shapes}
use Rattle.rows.specs.Cells.{values}
use Rattle.rows.specs.ShapeColumn.{IsShape}
use Rattle.rows.specs.Columns.{Included, Shaped}

-- A column of so many places has one for each of a tree's n rows, or is too short.
abbrev pub Places : ℕ → ℕ → Result (Unit {0}) ShortColumn → Type 0
Places n places (Ok _) = n ≤ places
Places n places (Err e) = (places < n) × (e.places ≡ places)

-- Inclusive: each place has its row's inclusive value, and those beyond the rows keep what they held; or the column is too short
-- and stays as it was.
abbrev pub Inclusion : {M V : Type 0} → Measure V → (M → V) → Tree M → List V → List V → Result (Unit {0}) ShortColumn → Type 0
Inclusion m means t col col' (Ok _) = (t.table.count ≤ length col) × Included m (shapes t.table.rows.now) (values means t.table.rows.now) col col' t.table.count
Inclusion m means t col col' (Err e) = (length col < t.table.count) × (col' ≡ col) × (e.places ≡ length col)

-- Shape: each place has its row's function and parent, and so the first places are a shape.
abbrev pub Shaping : {M : Type 0} → Tree M → List ShapeRow → List ShapeRow → Result (Unit {0}) ShortColumn → Type 0
Shaping t col col' (Ok _) = (t.table.count ≤ length col) × Shaped (shapes t.table.rows.now) col col' t.table.count × IsShape (take t.table.count col')
Shaping t col col' (Err e) = (length col < t.table.count) × (col' ≡ col) × (e.places ≡ length col)
