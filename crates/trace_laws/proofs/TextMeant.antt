-- The laws of the text format, of what a text means, by those of what it means line by line. Assumes nothing.
use Rattle.std.proofs.Common.{◌≡◌, ℕ, List, ◌∷◌, ◌++◌, take, sym, ap, ◌∙◌, Err}
use Rattle.trace.specs.Meanings.{Meaning}
use Rattle.trace.specs.TextMeaning.{text_meaning}
use Rattle.trace.specs.declared.fault.Fault.{Fault}
use Rattle.trace_laws.proofs.ByLines.{by_lines, same}
use Rattle.trace_laws.proofs.TextBefore.{by_lines_before}
use Rattle.trace_laws.proofs.TextFaults.{by_lines_within, by_lines_after, by_lines_ended}
use Rattle.trace_laws.proofs.TextWriting.{by_lines_read_back}
use Rattle.trace_laws.specs.TextLaws.{TextReadBack, TextWithin, TextBefore, TextAfter, TextEnded}
use Rattle.trace_laws.specs.Writing.{text_of, whole}

-- the same fault
faulty : (text : List ℕ) (f : Fault) → (text_meaning 0 text).ending ≡ Err f → (by_lines 0 text).ending ≡ Err f
faulty text f h = ap (λ (m : Meaning). m.ending) (same 0 text) ∙ h

pub text_read_back : TextReadBack
text_read_back rs h fit = sym (same 0 (text_of rs)) ∙ by_lines_read_back rs h fit

pub text_within : TextWithin
text_within text f h = by_lines_within text f (faulty text f h)

pub text_before : TextBefore
text_before text f h = sym (same 0 (take f.place text)) ∙ by_lines_before text f (faulty text f h) ∙ ap (λ (m : Meaning). whole m.records) (same 0 text)

pub text_after : TextAfter
text_after front more others f h within = sym (same 0 (front ++ (10 ∷ others))) ∙ by_lines_after front more others f (faulty (front ++ (10 ∷ more)) f h) within ∙ same 0 (front ++ (10 ∷ more))

pub text_ended : TextEnded
text_ended text more f h = sym (same 0 (text ++ (10 ∷ more))) ∙ by_lines_ended text more f (faulty text f h) ∙ same 0 text
