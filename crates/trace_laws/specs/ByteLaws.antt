-- What holds of the byte format. Assumes nothing.
use Rattle.std.specs.Prelude.{◌≡◌, ℕ, ◌<◌, List, ◌++◌, length, take, ◌≢◌, Err}
use Rattle.trace.specs.Ranges.{InRange}
use Rattle.trace.specs.Sources.{Every}
use Rattle.trace.specs.declared.fault.Cause.TheVariants.{CutShort}
use Rattle.trace.specs.declared.fault.Fault.{Fault}
use Rattle.trace.specs.declared.record.Record.{Record}
use Rattle.trace_bytes.specs.Bytes.{bytes_meaning}
use Rattle.trace_laws.specs.Writing.{FitsTypes, bytes_of, whole}

-- Records in range, with fields that their types hold, that are written and then read are the same records, and then the end.
abbrev pub BytesReadBack : Type 0
BytesReadBack = (rs : List Record) → Every InRange rs → Every FitsTypes rs → bytes_meaning 0 (bytes_of rs) ≡ whole rs

-- The place of a fault lies within the input.
abbrev pub BytesWithin : Type 0
BytesWithin = (bs : List ℕ) (f : Fault) → (bytes_meaning 0 bs).ending ≡ Err f → f.place < length bs

-- What is delivered before a fault is what the bytes before its place mean, and those end there without a fault.
abbrev pub BytesBefore : Type 0
BytesBefore = (bs : List ℕ) (f : Fault) → (bytes_meaning 0 bs).ending ≡ Err f → bytes_meaning 0 (take f.place bs) ≡ whole (bytes_meaning 0 bs).records

-- Bytes with a fault mean the same whatever follows them, unless the fault is that they end inside a record.
abbrev pub BytesAfter : Type 0
BytesAfter = (bs more : List ℕ) (f : Fault) → (bytes_meaning 0 bs).ending ≡ Err f → (f.cause ≢ CutShort) → bytes_meaning 0 (bs ++ more) ≡ bytes_meaning 0 bs
