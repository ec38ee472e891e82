-- What is printed of a text trace. Assumes nothing.
use Rattle.std.specs.Prelude.{◌≡◌, ℕ, Bool, List, length, Some, None, Option, Ok, Err, Result, String, string_bytes, MatchBool, nat_lt}
use Rattle.trace.specs.declared.record.Record.{Record}
use Rattle.trace.specs.Sources.{Ending}
use Rattle.trace.specs.Faults.{number as cause_number}
use Rattle.trace.specs.Text.{text_records, text_ending}
use Rattle.metrics.specs.Measures.{Measure}
use Rattle.metrics.specs.Sums.{Capped, calls, work}
use Rattle.metrics.specs.Pairs.{pair}
use Rattle.rows.specs.Numbers.{number as rejection_number}
use Rattle.metrics.specs.declared.pair.Pair.{Pair}
use Rattle.metrics.specs.declared.sum.Sum.{Sum}
use Rattle.profile.specs.declared.tree.TreeRow.{TreeRow}
use Rattle.profile.specs.declared.reading.Stop.{Stop}
use Rattle.profile.specs.declared.reading.Stop.TheVariants.{Limit, End, Faulted, Rejected}
use Rattle.profile.specs.Given.{Held}
use Rattle.profile.specs.View.{fresh}
use Rattle.profile.specs.Reads.{Reads}
use Rattle.report.specs.declared.page.PageLine.{PageLine}
use Rattle.report.specs.declared.page.StopLine.{StopLine}
use Rattle.report.specs.Name.{name_of}
use Rattle.report.specs.Text.{stop_text, ended}
use Rattle.printing.specs.declared.PrintError.{PrintError}
use Rattle.printing.specs.declared.PrintError.TheVariants.{Stopped, NoMemory}

-- what is measured for a page: calls beside work
abbrev pub cost : Measure (Capped × Capped)
cost = pair calls work

-- The line of a row, with its name, its own calls and work, and its inclusive ones.
abbrev pub page_line : {A B : Type 0} → ℕ → TreeRow (Pair (Sum A) (Sum B)) → Pair (Sum A) (Sum B) → PageLine
page_line depth row inclusive = record {
  depth = depth;
  name = name_of row.function;
  own_calls = row.value.first.total;
  own_work = row.value.second.total;
  calls = inclusive.first.total;
  work = inclusive.second.total;
}

abbrev pub stop_line : ℕ → ℕ → ℕ → StopLine
stop_line cause place passed = record { cause = cause; place = place; passed = passed }

-- The line of a read-in that added count records: a fault's own cause, place and layers passed; of a rejection its number, with the count
-- as the place; none at the source's end.
abbrev pub stopping : ℕ → Stop → Result (Unit {0}) StopLine
stopping count Limit = Ok tt
stopping count End = Ok tt
stopping count (Faulted f) = Err (stop_line (cause_number f.cause) f.place f.passed)
stopping count (Rejected r) = Err (stop_line (rejection_number r) count 0)

-- a trace may have 65,536 bytes
abbrev pub too_long : List ℕ → Bool
too_long text = nat_lt 65536 (length text)

-- The text was read into a new summary of 1,024 rows, beyond no limit, and the line says how that stopped; none where it came to the end.
pub record Reading (text : List ℕ) (line : Result (Unit {0}) StopLine) : Type 0 where
  pub left : Held (Capped × Capped)
  pub rest : List Record
  pub ending : Ending
  pub count : ℕ
  pub stop : Stop
  pub reads : Reads cost (fresh cost 1024) left (text_records text) rest (text_ending 0 text) ending 65538 count stop
  pub unlimited : stop ≡ Limit → ⊥
  pub is : line ≡ stopping count stop

-- Whether a text is read through, or the line that it stops with. A trace that is too long stops with 15 before anything is read.
abbrev pub Came : List ℕ → Result (Unit {0}) StopLine → Type 0
Came text line = MatchBool (too_long text) (line ≡ Err (stop_line 15 65536 0)) (Reading text line)

-- the error has the line's text and the line's end, unless there is no memory for it
abbrev pub Tells : PrintError → StopLine → Type 0
Tells (Stopped s) l = string_bytes s ≡ ended (stop_text l)
Tells (NoMemory e) l = Unit {0}

-- what an error shows: a stop its line, with the line's end; what want of memory shows is not said
abbrev pub shown : PrintError → Option (List ℕ)
shown (Stopped s) = Some (string_bytes s)
shown (NoMemory e) = None

-- nothing is answered for a reading that came to its end, and an error that tells the line for one that stopped
abbrev pub GoesOn : Result (Unit {0}) StopLine → Result (Unit {0}) PrintError → Type 0
GoesOn (Ok u) (Ok v) = Unit {0}
GoesOn (Ok u) (Err e) = ⊥
GoesOn (Err l) (Ok v) = ⊥
GoesOn (Err l) (Err e) = Tells e l

-- An error tells how the text stopped. Want of memory may come at any time, and tells nothing.
abbrev pub Halts : List ℕ → PrintError → Type 0
Halts text (Stopped s) = (l : StopLine) × Came text (Err l) × Tells (Stopped s) l
Halts text (NoMemory e) = Unit {0}

-- A page is made only where the text is read through, and a stop line only where it isn't.
abbrev pub Prints : {Z : Type 0} → List ℕ → Result (String Z) PrintError → Type 0
Prints text (Ok page) = Came text (Ok tt)
Prints text (Err e) = Halts text e
