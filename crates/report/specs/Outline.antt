-- The outline of a row: the row's line, then the outline of its children by rising function.
use Rattle.std.specs.Prelude.{◌≡◌, ℕ, ◌+◌, ◌<◌, cond, List, [], ◌∷◌, ◌++◌, length, drop, ◌==◌, slice_set}
use Rattle.std.specs.List.{ContainsAt as Has, AllByRecursion}
use Rattle.rows.specs.declared.shape.ShapeRow.{ShapeRow}
use Rattle.report.specs.declared.order.Entry.{Entry}
use Rattle.report.specs.declared.outline.Line.{Line}
use Rattle.rows.specs.ShapeColumn.{function_at, parent_at, depth_of}

abbrev pub line_of : List ShapeRow → ℕ → Line
line_of s r = record { row = r; depth = depth_of s r }

abbrev pub IsChild : List ShapeRow → ℕ → ℕ → Type 0
IsChild s r i = (0 < i) × ((i < length s) × (parent_at s i ≡ r))

-- the functions of the rows rise
abbrev pub Rising : List ShapeRow → List ℕ → Type 0
Rising s [] = Unit {0}
Rising s (c ∷ cs) = AllByRecursion (λ d. function_at s c < function_at s d) cs × Rising s cs

-- the children of row r, all of them, by rising function
pub record IsChildren (s : List ShapeRow) (r : ℕ) (cs : List ℕ) : Type 0 where
  pub each : AllByRecursion (IsChild s r) cs
  pub all : (i : ℕ) → IsChild s r i → Has cs i
  pub rising : Rising s cs

-- the lines are the outlines of the rows, one after the other
pub data Outlines (s : List ShapeRow) : List ℕ → List Line → Type 0 where
  none : Outlines s [] []
  more : (r : ℕ) (rs cs : List ℕ) (below rest lines : List Line) → IsChildren s r cs → Outlines s cs below → Outlines s rs rest → lines ≡ (line_of s r ∷ below) ++ rest → Outlines s (r ∷ rs) lines

-- the lines are the outline of row r
pub record OutlineOf (s : List ShapeRow) (r : ℕ) (lines : List Line) : Type 0 where
  pub children : List ℕ
  pub below : List Line
  pub whole : IsChildren s r children
  pub outlines : Outlines s children below
  pub is : lines ≡ line_of s r ∷ below

-- the lines written into a column from a place on
abbrev pub put : List Line → ℕ → List Line → List Line
put column at [] = column
put column at (l ∷ ls) = put (slice_set column at l) (at + 1) ls

-- the children of `parent` that lead the entries
abbrev pub led_by : List ShapeRow → ℕ → List Entry → List ℕ
led_by s parent [] = []
led_by s parent (e ∷ es) = cond (parent_at s e.row == parent) (e.row ∷ led_by s parent es) []

-- a column after the outline of a row was written into it from a place on
pub record RowDrawn (s : List ShapeRow) (r at end : ℕ) (old new : List Line) : Type 0 where
  pub lines : List Line
  pub outline : OutlineOf s r lines
  pub written : new ≡ put old at lines
  pub ends : end ≡ at + length lines

-- the same of the outlines of several rows
pub record RowsDrawn (s : List ShapeRow) (rs : List ℕ) (at end : ℕ) (old new : List Line) : Type 0 where
  pub lines : List Line
  pub outlines : Outlines s rs lines
  pub written : new ≡ put old at lines
  pub ends : end ≡ at + length lines

-- a column whose first places hold the outline of the whole shape, and whose other places are as they were
pub record Drawn (s : List ShapeRow) (old new : List Line) : Type 0 where
  pub lines : List Line
  pub outline : OutlineOf s 0 lines
  pub long : length lines ≡ length s
  pub is : new ≡ lines ++ drop (length s) old
