-- The order of a shape's rows by parent and then by function, and where each row's children begin in it.
use Rattle.std.specs.Prelude.{◌≡◌, ℕ, ◌+◌, ◌<◌, ◌≤◌, ◌⊎◌, List, length, ◌≢◌, slice_index_or}
use Rattle.std.specs.List.{ContainsAt as Has}
use Rattle.rows.specs.declared.shape.ShapeRow.{ShapeRow}
use Rattle.report.specs.declared.order.Entry.{Entry}
use Rattle.rows.specs.ShapeColumn.{function_at, parent_at}

abbrev pub no_entry : Entry
no_entry = record { parent = 0; function = 0; row = 0 }

abbrev pub entry_at : List Entry → ℕ → Entry
entry_at order k = slice_index_or order k no_entry

-- the entry of a row
abbrev pub entry_of : List ShapeRow → ℕ → Entry
entry_of s i = record { parent = parent_at s i; function = function_at s i; row = i }

-- the entries of the rows from 1 on, in the rows' own order
pub record Listed (s : List ShapeRow) (list : List Entry) : Type 0 where
  pub long : length list + 1 ≡ length s
  pub each : (k : ℕ) → k < length list → entry_at list k ≡ entry_of s (k + 1)

-- x may stand before y: its parent is smaller, or they have one parent and its function is no larger
abbrev pub Upto : Entry → Entry → Type 0
Upto x y = (x.parent < y.parent) ⊎ ((x.parent ≡ y.parent) × (x.function ≤ y.function))

abbrev pub Alike : Entry → Entry → Type 0
Alike x y = (x.parent ≡ y.parent) × (x.function ≡ y.function)

-- the same entries, each row's once, by parent and then by function
pub record Arranged (s : List ShapeRow) (order : List Entry) : Type 0 where
  pub long : length order + 1 ≡ length s
  pub each : (k : ℕ) → k < length order → entry_at order k ≡ entry_of s (entry_at order k).row
  pub within : (k : ℕ) → k < length order → (0 < (entry_at order k).row) × ((entry_at order k).row < length s)
  pub all : (i : ℕ) → 0 < i → i < length s → Has order (entry_of s i)
  pub once : (j k : ℕ) → j < length order → k < length order → (entry_at order j).row ≡ (entry_at order k).row → j ≡ k
  pub rises : (k : ℕ) → k + 1 < length order → Upto (entry_at order k) (entry_at order (k + 1))

-- two neighbours of the order share parent and function
abbrev pub Twins : List Entry → Type 0
Twins order = (k : ℕ) × (k + 1 < length order) × Alike (entry_at order k) (entry_at order (k + 1))

-- `at` is the first place of the order whose entry has the parent, or the order's length where there is none
pub record Begins (order : List Entry) (parent at : ℕ) : Type 0 where
  pub none_before : (k : ℕ) → k < at → (entry_at order k).parent ≢ parent
  pub here : at < length order → (entry_at order at).parent ≡ parent
  pub within : at ≤ length order
