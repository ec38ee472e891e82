-- The byte format: the record that bytes begin with, and what bytes mean. Assumes nothing.
use Rattle.std.specs.Prelude.{ℕ, zero, suc, ◌+◌, List, [], ◌∷◌, drop, Ok, Err, Result}
use Rattle.trace.specs.Fields.{field_count, made}
use Rattle.trace.specs.Kinds.{kind_of_byte}
use Rattle.trace.specs.Meanings.{Meaning, nothing, followed}
use Rattle.trace.specs.Text.{and_then}
use Rattle.trace.specs.declared.fault.Cause.{Cause}
use Rattle.trace.specs.declared.kind.Kind.{Kind}
use Rattle.trace.specs.declared.record.Record.{Record}
use Rattle.trace_bytes.specs.Groups.{numbers}
use Rattle.trace_bytes.specs.declared.source.ByteSource.{ByteSource}

-- The record of a kind whose fields bytes begin with, and how many bytes they took. The ranges come last, so that each other cause goes before.
abbrev pub fields_record : Kind → List ℕ → Result (Record × ℕ) Cause
fields_record k bs = and_then (numbers (field_count k) bs) (λ v. and_then (made k v.0) (λ r. Ok (r, v.1)))

-- A record: the byte of its kind, then its fields. With it, how many bytes the fields took.
abbrev pub record_of : ℕ → List ℕ → Result (Record × ℕ) Cause
record_of b bs = and_then (kind_of_byte b) (λ k. fields_record k bs)

-- a record at place p, and what follows the n bytes of its fields
abbrev pub record_then : Result (Record × ℕ) Cause → ℕ → (ℕ → Meaning) → Meaning
record_then (Ok x) p m = followed (Ok x.0) p (m x.1)
record_then (Err c) p m = followed (Err c) p nothing

-- What bytes mean, of which the first stands at place p; the first n of them belong to the record before.
abbrev pub meaning_past : ℕ → ℕ → List ℕ → Meaning
meaning_past n p [] = nothing
meaning_past zero p (b ∷ bs) = record_then (record_of b bs) p (λ n. meaning_past n (p + 1) bs)
meaning_past (suc n) p (b ∷ bs) = meaning_past n (p + 1) bs

-- what bytes mean, of which the first stands at place p: one record after the other
abbrev pub bytes_meaning : ℕ → List ℕ → Meaning
bytes_meaning p bs = meaning_past 0 p bs

-- what a source has still to give, from the place of its next record on
abbrev pub bytes_left : ByteSource → Meaning
bytes_left s = bytes_meaning s.at (drop s.at s.bytes.now)
