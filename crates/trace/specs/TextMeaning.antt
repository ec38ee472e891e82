-- What a text means, as one thing. Assumes nothing.
use Rattle.std.specs.Prelude.{ℕ, List}
use Rattle.trace.specs.Meanings.{Meaning}
use Rattle.trace.specs.Text.{text_records, text_ending}

-- its records and its ending, where its first byte stands at place p
abbrev pub text_meaning : ℕ → List ℕ → Meaning
text_meaning p text = record { records = text_records text; ending = text_ending p text }
