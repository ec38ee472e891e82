-- Each record of a text is in range. Assumes nothing.
use Rattle.std.specs.Prelude.{ℕ, List, [], ◌∷◌, Ok, Err, Result}
use Rattle.trace.specs.Fields.{field_count, made}
use Rattle.trace.specs.FieldsRanged.{Good, made_good}
use Rattle.trace.specs.Pieces.{pieces}
use Rattle.trace.specs.Ranges.{InRange}
use Rattle.trace.specs.Sources.{Every, rest}
use Rattle.trace.specs.Text.{and_then, fields, first_kind, record_of, line_record, record_then, line_records, text_records}
use Rattle.trace.specs.Words.{words}
use Rattle.trace.specs.declared.fault.Cause.{Cause}
use Rattle.trace.specs.declared.kind.Kind.{Kind}
use Rattle.trace.specs.declared.record.Record.{Record}

-- what is made of a value is in range
pub then_good : {X : Type 0} (r : Result X Cause) (f : X → Result Record Cause) → ((x : X) → Good (f x)) → Good (and_then r f)
then_good (Ok x) f h = h x
then_good (Err c) f h = tt

record_good : (k : Kind) (ws : List (List ℕ)) → Good (record_of k ws)
record_good k ws = then_good (fields (field_count k) ws) (made k) (made_good k)

line_good : (line : List ℕ) → Good (line_record line)
line_good line = then_good (first_kind (words line)) _ (λ k. record_good k (rest (words line)))

then_every : (r : Result Record Cause) (rs : List Record) → Good r → Every InRange rs → Every InRange (record_then r rs)
then_every (Ok r) rs h t = (h, t)
then_every (Err c) rs h t = tt

lines_ranged : (ls : List (List ℕ)) → Every InRange (line_records ls)
lines_ranged [] = tt
lines_ranged ([] ∷ ls) = lines_ranged ls
lines_ranged ((b ∷ bs) ∷ ls) = then_every (line_record (b ∷ bs)) (line_records ls) (line_good (b ∷ bs)) (lines_ranged ls)

pub text_ranged : (text : List ℕ) → Every InRange (text_records text)
text_ranged text = lines_ranged (pieces 10 text)
