-- Records that are written as text and read again are the same. Assumes nothing.
use Rattle.std.proofs.Common.{◌≡◌, ℕ, ◌+◌, ◌<◌, ◌≤◌, true, not, eqb, leb, List, [], ◌∷◌, ◌++◌, map, length, Ok, decimal, Result, refl, ap, ◌∙◌, append_assoc, append-nil, arith, rules}
use Rattle.std.proofs.lemmas.Fmt.{digits_decimal, digits_value-decimal, length-decimal-le, decimal_nonempty}
use Rattle.std.proofs.lemmas.Str.Parse.{IsNumeralModel, numerals_by_fold}
use Rattle.std.proofs.lemmas.Bool.{ne_eqb, le-leb, leb-true, and_parts, and_from, not_from_false}
use Rattle.std.specs.List.{flat_map}
use Rattle.trace.specs.Ranges.{from_to, InRange}
use Rattle.trace.specs.Sources.{Every, rest}
use Rattle.trace.specs.Text.{and_then, value_after, number_of, field, record_of, first_kind, line_record, lines}
use Rattle.trace.specs.Words.{words, all_digits, is_digits}
use Rattle.trace.specs.declared.fault.Cause.{Cause}
use Rattle.trace.specs.declared.record.Record.{Record}
use Rattle.trace.specs.declared.record.Record.TheVariants.{Call, Return, Unwind, Sample}
use Rattle.trace_laws.proofs.ByLines.{lines_meaning, by_lines}
use Rattle.trace_laws.proofs.Joining.{lacks, pieces_lacking, pieces_line}
use Rattle.trace_laws.proofs.Made.{Fits, sample_made, fields_fit}
use Rattle.trace_laws.specs.Writing.{FitsTypes, fields_of, word_of, line_of, text_of, whole}

-- the digits that are read are those that decimals are written in
numerals : IsNumeralModel (λ ds. all_digits ds ≡ true) (value_after 0)
numerals = numerals_by_fold _ (search rules) value_after (search rules)

decimal_digits : (n : ℕ) → Fits n → all_digits (decimal n) ≡ true
decimal_digits n h = digits_decimal numerals n (omega arith)

-- a number that is written is the field that is read
some_digits : (ds : List ℕ) → 0 < length ds → all_digits ds ≡ true → is_digits ds ≡ true
some_digits [] l h = absurd (omega arith)
some_digits (d ∷ ds) l h = h

number_read : (ds : List ℕ) (n : ℕ) → length ds ≤ 10 → value_after 0 ds ≡ n → Fits n → number_of ds ≡ Ok n
number_read ds n l e h = rw (e, le-leb (length ds) 10 l, le-leb n 4294967295 h)

pub field_read : (n : ℕ) → Fits n → field (decimal n) ≡ Ok n
field_read n h =
    let d = some_digits (decimal n) (decimal_nonempty n (omega arith)) (decimal_digits n h) in
    let l = length-decimal-le 10 n (omega arith) (omega arith) (omega arith) in
    rw d (number_read (decimal n) n l (digits_value-decimal numerals n (omega arith)) h)

-- digits hold no byte below those of digits
digit_apart : (b sep : ℕ) → sep < 48 → from_to 48 57 b ≡ true → not (eqb b sep) ≡ true
digit_apart b sep low h = not_from_false (eqb b sep) (ne_eqb b sep (λ e. omega (arith, leb-true 48 b (and_parts (leb 48 b) (leb b 57) h).0)))

digits_lack : (sep : ℕ) (ds : List ℕ) → sep < 48 → all_digits ds ≡ true → lacks sep ds ≡ true
digits_lack sep [] low h = refl
digits_lack sep (d ∷ ds) low h =
    let p = and_parts (from_to 48 57 d) (all_digits ds) h in
    and_from (not (eqb d sep)) (lacks sep ds) (digit_apart d sep low p.0) (digits_lack sep ds low p.1)

decimal_lacks : (sep n : ℕ) → sep < 48 → Fits n → lacks sep (decimal n) ≡ true
decimal_lacks sep n low h = digits_lack sep (decimal n) low (decimal_digits n h)

-- numbers, each after a space
abbrev spaced : List ℕ → List ℕ
spaced ns = flat_map (λ n. 32 ∷ decimal n) ns

-- the words of a line are its first word and the numbers
pub words_written : (w ns : List ℕ) → lacks 32 w ≡ true → Every Fits ns → words (w ++ spaced ns) ≡ w ∷ map decimal ns
words_written w [] lack h = rw append-nil (pieces_lacking 32 w lack)
words_written w (n ∷ ns) lack h = pieces_line 32 w (decimal n ++ spaced ns) lack ∙ ap (λ ws. w ∷ ws) (words_written (decimal n) ns (decimal_lacks 32 n (omega arith) h.0) h.1)

-- there is no line end in a line
lacks_append : (sep : ℕ) (xs ys : List ℕ) → lacks sep xs ≡ true → lacks sep ys ≡ true → lacks sep (xs ++ ys) ≡ true
lacks_append sep [] ys h k = k
lacks_append sep (b ∷ xs) ys h k =
    let p = and_parts (not (eqb b sep)) (lacks sep xs) h in
    and_from (not (eqb b sep)) (lacks sep (xs ++ ys)) p.0 (lacks_append sep xs ys p.1 k)

spaced_lacks : (ns : List ℕ) → Every Fits ns → lacks 10 (spaced ns) ≡ true
spaced_lacks [] h = refl
spaced_lacks (n ∷ ns) h = lacks_append 10 (decimal n) (spaced ns) (decimal_lacks 10 n (omega arith) h.0) (spaced_lacks ns h.1)

-- the words of a record are read as that record
abbrev words_record : List (List ℕ) → Result Record Cause
words_record ws = and_then (first_kind ws) (λ k. record_of k (rest ws))

record_read : (r : Record) → InRange r → FitsTypes r → Every Fits (fields_of r) → words_record (word_of r ∷ map decimal (fields_of r)) ≡ Ok r
record_read (Call f) h small fit = rw (field_read f fit.0, h)
record_read Return h small fit = refl
record_read (Unwind n) h small fit = rw (field_read n fit.0, h)
record_read (Sample s) h small fit = rw (field_read s.step fit.0, field_read s.weight fit.1.0, field_read s.site fit.1.1.0, field_read s.region fit.1.1.1.0) (sample_made s h small)

-- a record's line without its end
abbrev unended : Record → List ℕ
unended r = word_of r ++ spaced (fields_of r)

word_lacks_space : (r : Record) → lacks 32 (word_of r) ≡ true
word_lacks_space (Call f) = refl
word_lacks_space Return = refl
word_lacks_space (Unwind n) = refl
word_lacks_space (Sample s) = refl

word_lacks_end : (r : Record) → lacks 10 (word_of r) ≡ true
word_lacks_end (Call f) = refl
word_lacks_end Return = refl
word_lacks_end (Unwind n) = refl
word_lacks_end (Sample s) = refl

unended_lacks : (r : Record) → Every Fits (fields_of r) → lacks 10 (unended r) ≡ true
unended_lacks r fit = lacks_append 10 (word_of r) (spaced (fields_of r)) (word_lacks_end r) (spaced_lacks (fields_of r) fit)

unended_some : (r : Record) → 0 < length (unended r)
unended_some (Call f) = omega arith
unended_some Return = omega arith
unended_some (Unwind n) = omega arith
unended_some (Sample s) = omega arith

-- it is read as the record
pub line_read : (r : Record) → InRange r → FitsTypes r → line_record (unended r) ≡ Ok r
line_read r h small =
    let fit = fields_fit r h small in
    ap words_record (words_written (word_of r) (fields_of r) (word_lacks_space r) fit) ∙ record_read r h small fit

-- a line that is read as a record, before lines that are read as others
line_whole : (p : ℕ) (l : List ℕ) (ls : List (List ℕ)) (r : Record) (rs : List Record) → 0 < length l → line_record l ≡ Ok r → ((q : ℕ) → lines_meaning q ls ≡ whole rs) → lines_meaning p (l ∷ ls) ≡ whole (r ∷ rs)
line_whole p [] ls r rs some e same = absurd (omega arith)
line_whole p (b ∷ bs) ls r rs some e same = rw (e, same (p + length (b ∷ bs) + 1))

line_then : (r : Record) (more : List ℕ) → line_of r ++ more ≡ unended r ++ (10 ∷ more)
line_then r more = simp append_assoc

lines_written : (r : Record) (more : List ℕ) → InRange r → FitsTypes r → lines (line_of r ++ more) ≡ unended r ∷ lines more
lines_written r more h small = ap lines (line_then r more) ∙ pieces_line 10 (unended r) more (unended_lacks r (fields_fit r h small))

-- at whatever place the text begins
pub read_back_at : (p : ℕ) (rs : List Record) → Every InRange rs → Every FitsTypes rs → by_lines p (text_of rs) ≡ whole rs
read_back_at p [] h small = refl
read_back_at p (r ∷ rs) h small = rw (lines_written r (text_of rs) h.0 small.0) (line_whole p (unended r) (lines (text_of rs)) r rs (unended_some r) (line_read r h.0 small.0) (λ q. read_back_at q rs h.1 small.1))

pub by_lines_read_back : (rs : List Record) → Every InRange rs → Every FitsTypes rs → by_lines 0 (text_of rs) ≡ whole rs
by_lines_read_back rs h small = read_back_at 0 rs h small
