-- The text format: the record of a line, and the records and the ending of a text. Assumes nothing.
use Rattle.std.specs.Prelude.{ℕ, zero, suc, ◌+◌, ◌-◌, ◌*◌, cond, ◌&&◌, List, [], ◌∷◌, length, drop, Ok, Err, Result, nat_le}
use Rattle.trace.specs.Faults.{fault_at}
use Rattle.trace.specs.Fields.{Numbers, listed, field_count, made}
use Rattle.trace.specs.Kinds.{kind_of_word}
use Rattle.trace.specs.Pieces.{pieces}
use Rattle.trace.specs.Sources.{Ending, rest}
use Rattle.trace.specs.Words.{words, is_digits}
use Rattle.trace.specs.declared.fault.Cause.{Cause}
use Rattle.trace.specs.declared.fault.Cause.TheVariants.{CutShort, TooLarge, UnknownKind, BadField}
use Rattle.trace.specs.declared.kind.Kind.{Kind}
use Rattle.trace.specs.declared.record.Record.{Record}
use Rattle.trace.specs.declared.text.TextSource.{TextSource}

-- where r has a value, what f makes of it; else the cause that r has
abbrev pub and_then : {X Y : Type 0} → Result X Cause → (X → Result Y Cause) → Result Y Cause
and_then (Ok x) f = f x
and_then (Err c) f = Err c

-- the number that n and then the digits write; 48 is the byte of `0`
abbrev pub value_after : ℕ → List ℕ → ℕ
value_after n [] = n
value_after n (d ∷ ds) = value_after (n * 10 + (d - 48)) ds

-- The number of some digits: at most ten of them, and it fits 32 bits.
abbrev pub number_of : List ℕ → Result ℕ Cause
number_of ds = cond (nat_le (length ds) 10 && nat_le (value_after 0 ds) 4294967295) (Ok (value_after 0 ds)) (Err TooLarge)

-- The number of a word, of which each byte must be a digit, and there must be one.
abbrev pub field : List ℕ → Result ℕ Cause
field w = cond (is_digits w) (number_of w) (Err BadField)

-- the field that the first word is
abbrev pub first_field : List (List ℕ) → Result ℕ Cause
first_field [] = Err CutShort
first_field (w ∷ ws) = field w

-- there is no word
abbrev pub no_word : List (List ℕ) → Result (Unit {0}) Cause
no_word [] = Ok tt
no_word (w ∷ ws) = Err BadField

-- The words are n fields, from the left, and no more.
abbrev pub fields : (n : ℕ) → List (List ℕ) → Result (Numbers n) Cause
fields zero ws = no_word ws
fields (suc n) ws = and_then (first_field ws) (λ v. and_then (fields n (rest ws)) (λ vs. Ok (v, vs)))

-- the same as a list
abbrev pub field_list : ℕ → List (List ℕ) → Result (List ℕ) Cause
field_list n ws = and_then (fields n ws) (λ v. Ok (listed n v))

-- The record of a kind, with the words after the first. The ranges come last, so that each other cause goes before.
abbrev pub record_of : Kind → List (List ℕ) → Result Record Cause
record_of k ws = and_then (fields (field_count k) ws) (made k)

-- the kind that the first word names
abbrev pub first_kind : List (List ℕ) → Result Kind Cause
first_kind [] = Err UnknownKind
first_kind (w ∷ ws) = kind_of_word w

-- The record of a line that is not empty. Its first word is looked at first, and then the others.
abbrev pub line_record : List ℕ → Result Record Cause
line_record line = and_then (first_kind (words line)) (λ k. record_of k (rest (words line)))

-- the lines of a text, each of which ends at a line end or with the text
abbrev pub lines : List ℕ → List (List ℕ)
lines text = pieces 10 text

-- a line's record and those after it; none from a line at fault on
abbrev pub record_then : Result Record Cause → List Record → List Record
record_then (Ok r) rs = r ∷ rs
record_then (Err c) rs = []

-- the ending after a line at place p; a line at fault is the ending
abbrev pub ending_then : Result Record Cause → ℕ → Ending → Ending
ending_then (Ok r) p e = e
ending_then (Err c) p e = Err (fault_at c p)

-- The records of lines. An empty line is skipped.
abbrev pub line_records : List (List ℕ) → List Record
line_records [] = []
line_records ([] ∷ ls) = line_records ls
line_records ((b ∷ bs) ∷ ls) = record_then (line_record (b ∷ bs)) (line_records ls)

-- The ending after lines of which the first begins at place p.
abbrev pub line_ending : ℕ → List (List ℕ) → Ending
line_ending p [] = Ok tt
line_ending p ([] ∷ ls) = line_ending (p + 1) ls
line_ending p ((b ∷ bs) ∷ ls) = ending_then (line_record (b ∷ bs)) p (line_ending (p + length (b ∷ bs) + 1) ls)

abbrev pub text_records : List ℕ → List Record
text_records text = line_records (lines text)

-- the ending of a text whose first byte stands at place p
abbrev pub text_ending : ℕ → List ℕ → Ending
text_ending p text = line_ending p (lines text)

-- what a source has still to give, from the place of its next line on
abbrev pub records_left : TextSource → List Record
records_left s = text_records (drop s.at s.text.now)

abbrev pub ending_left : TextSource → Ending
ending_left s = text_ending s.at (drop s.at s.text.now)
