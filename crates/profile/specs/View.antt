-- What a summary in its table means, and what its answers say of it. Assumes nothing.
use Rattle.std.specs.Prelude.{◌≡◌, ℕ, ◌<◌, ◌≤◌, true, [], ◌∷◌, length, Some, None, Option, Ok, Err, Result, ◌≢◌}
use Rattle.profile.specs.declared.summary.Summary.{Summary}
use Rattle.profile.specs.declared.summary.SummaryRow.{SummaryRow}
use Rattle.rows.specs.declared.rejection.Rejection.{Rejection}
use Rattle.metrics.specs.Measures.{Measure}
use Rattle.model.specs.Positions.{Position, at}
use Rattle.model.specs.Summaries.{summary}
use Rattle.rows.specs.Shapes.{shapes}
use Rattle.rows.specs.Cells.{values}
use Rattle.rows.specs.Reading.{context, reading}
use Rattle.profile.specs.Given.{Held, tabled}

-- the summary that the rows in use show, their number, and the table's
abbrev pub view : {M V : Type 0} → Measure V → (M → V) → Summary M → Held V
view m means s = record { is = reading m (shapes s.table.rows.now) (values means s.table.rows.now) s.table.count s.current; count = s.table.count; room = length s.table.rows.now }

-- a new summary is that of the empty list
abbrev pub fresh : {V : Type 0} → Measure V → ℕ → Held V
fresh m room = record { is = summary m []; count = 1; room = room }

-- a table of so many rows gives a new summary, or is rejected, by its size
abbrev pub Begins : {M V : Type 0} → Measure V → (M → V) → ℕ → Result (Summary M) Rejection → Type 0
Begins m means room (Ok s) = (tabled room ≡ Ok tt) × (view m means s ≡ fresh m room)
Begins m means room (Err e) = tabled room ≡ Err e

-- the context that the row k stands for
abbrev pub row_context : {M : Type 0} → Summary M → ℕ → Position
row_context s k = context (shapes s.table.rows.now) k

-- r is the number of the open path's row
pub record AnswersOpen {M V : Type 0} (m : Measure V) (means : M → V) (s : Summary M) (r : ℕ) : Type 0 where
  pub within : r < s.table.count
  pub is : row_context s r ≡ (view m means s).is.end

-- x tells of the row k: its level, its function and parent, which give its path, and its value
pub record TellsRow {M V : Type 0} (m : Measure V) (means : M → V) (s : Summary M) (k : ℕ) (x : SummaryRow M) : Type 0 where
  pub within : k < s.table.count
  pub there : (view m means s).is.row (row_context s k) ≡ true
  pub level : x.level ≡ (row_context s k).level
  -- a row with the empty path has function 0 and itself as parent
  pub root : (row_context s k).path ≡ [] → (x.function ≡ 0) × (x.parent ≡ k)
  -- any other has the parent's path, followed by its own function
  pub child : ((row_context s k).path ≢ []) → (x.parent < k) × (row_context s k ≡ at (row_context s x.parent).level (x.function ∷ (row_context s x.parent).path))
  pub value : means x.value ≡ (view m means s).is.value (row_context s k)

-- the row of that number, none beyond the rows
abbrev pub AnswersRow : {M V : Type 0} → Measure V → (M → V) → Summary M → ℕ → Option (SummaryRow M) → Type 0
AnswersRow m means s k None = s.table.count ≤ k
AnswersRow m means s k (Some x) = TellsRow m means s k x
