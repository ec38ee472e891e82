-- What a text means line by line, as one recursion, which the laws are proved of. Assumes nothing.
use Rattle.std.proofs.Common.{◌≡◌, ℕ, ◌+◌, List, [], ◌∷◌, length, Ok, Err, Result, refl, ap, ◌∙◌}
use Rattle.trace.specs.Meanings.{Meaning, nothing, followed}
use Rattle.trace.specs.Sources.{Ending}
use Rattle.trace.specs.Text.{line_record, lines, record_then, ending_then, line_records, line_ending}
use Rattle.trace.specs.TextMeaning.{text_meaning}
use Rattle.trace.specs.declared.fault.Cause.{Cause}
use Rattle.trace.specs.declared.record.Record.{Record}

-- What lines mean, of which the first begins at place p. An empty line is skipped; the byte after a line is its end.
abbrev pub lines_meaning : ℕ → List (List ℕ) → Meaning
lines_meaning p [] = nothing
lines_meaning p ([] ∷ ls) = lines_meaning (p + 1) ls
lines_meaning p ((b ∷ bs) ∷ ls) = followed (line_record (b ∷ bs)) p (lines_meaning (p + length (b ∷ bs) + 1) ls)

-- what a text means, whose first byte stands at place p
abbrev pub by_lines : ℕ → List ℕ → Meaning
by_lines p text = lines_meaning p (lines text)

-- the records and the ending of a line and of what follows it
followed_both : (r : Result Record Cause) (p : ℕ) (rs : List Record) (e : Ending) → followed r p (record { records = rs; ending = e }) ≡ record { records = record_then r rs; ending = ending_then r p e }
followed_both (Ok r) p rs e = refl
followed_both (Err c) p rs e = refl

lines_same : (p : ℕ) (ls : List (List ℕ)) → lines_meaning p ls ≡ record { records = line_records ls; ending = line_ending p ls }
lines_same p [] = refl
lines_same p ([] ∷ ls) = lines_same (p + 1) ls
lines_same p ((b ∷ bs) ∷ ls) =
    let q = p + length (b ∷ bs) + 1 in
    ap (followed (line_record (b ∷ bs)) p) (lines_same q ls) ∙ followed_both (line_record (b ∷ bs)) p (line_records ls) (line_ending q ls)

-- It is what the text means.
pub same : (p : ℕ) (text : List ℕ) → by_lines p text ≡ text_meaning p text
same p text = lines_same p (lines text)
