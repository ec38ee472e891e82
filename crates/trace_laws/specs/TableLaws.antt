-- What holds of a table of records. Assumes nothing.
use Rattle.std.specs.Prelude.{◌≡◌, ◌<◌, List, ◌++◌, length, take, Err}
use Rattle.trace.specs.Ranges.{InRange}
use Rattle.trace.specs.Sources.{Every}
use Rattle.trace.specs.Tables.{table_meaning}
use Rattle.trace.specs.declared.fault.Fault.{Fault}
use Rattle.trace.specs.declared.record.Record.{Record}
use Rattle.trace_laws.specs.Writing.{whole}

-- A table of records in range means just these, and then the end.
abbrev pub TableRead : Type 0
TableRead = (rs : List Record) → Every InRange rs → table_meaning 0 rs ≡ whole rs

-- The place of a fault is the index of a record of the table.
abbrev pub TableWithin : Type 0
TableWithin = (rs : List Record) (f : Fault) → (table_meaning 0 rs).ending ≡ Err f → f.place < length rs

-- What is delivered before a fault is the table before its place, record by record.
abbrev pub TableFront : Type 0
TableFront = (rs : List Record) (f : Fault) → (table_meaning 0 rs).ending ≡ Err f → (table_meaning 0 rs).records ≡ take f.place rs

-- And that part by itself means just these, and then the end.
abbrev pub TableBefore : Type 0
TableBefore = (rs : List Record) (f : Fault) → (table_meaning 0 rs).ending ≡ Err f → table_meaning 0 (take f.place rs) ≡ whole (table_meaning 0 rs).records

-- A table with a fault means the same whatever follows it.
abbrev pub TableAfter : Type 0
TableAfter = (rs more : List Record) (f : Fault) → (table_meaning 0 rs).ending ≡ Err f → table_meaning 0 (rs ++ more) ≡ table_meaning 0 rs
