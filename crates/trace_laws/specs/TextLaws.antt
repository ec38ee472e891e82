-- What holds of the text format. Assumes nothing.
use Rattle.std.specs.Prelude.{◌≡◌, ℕ, ◌<◌, ◌≤◌, List, ◌∷◌, ◌++◌, length, take, Err}
use Rattle.trace.specs.Ranges.{InRange}
use Rattle.trace.specs.Sources.{Every}
use Rattle.trace.specs.TextMeaning.{text_meaning}
use Rattle.trace.specs.declared.fault.Fault.{Fault}
use Rattle.trace.specs.declared.record.Record.{Record}
use Rattle.trace_laws.specs.Writing.{FitsTypes, text_of, whole}

-- Records in range, with fields that their types hold, that are written and then read are the same records, and then the end.
abbrev pub TextReadBack : Type 0
TextReadBack = (rs : List Record) → Every InRange rs → Every FitsTypes rs → text_meaning 0 (text_of rs) ≡ whole rs

-- The place of a fault lies within the input.
abbrev pub TextWithin : Type 0
TextWithin = (text : List ℕ) (f : Fault) → (text_meaning 0 text).ending ≡ Err f → f.place < length text

-- What is delivered before a fault is what the text before its line means, and that ends there without a fault.
abbrev pub TextBefore : Type 0
TextBefore = (text : List ℕ) (f : Fault) → (text_meaning 0 text).ending ≡ Err f → text_meaning 0 (take f.place text) ≡ whole (text_meaning 0 text).records

-- What follows the line of a fault changes nothing: the line begins in the front, which a line end (byte 10) ends.
abbrev pub TextAfter : Type 0
TextAfter = (front more others : List ℕ) (f : Fault) → (text_meaning 0 (front ++ (10 ∷ more))).ending ≡ Err f → f.place ≤ length front → text_meaning 0 (front ++ (10 ∷ others)) ≡ text_meaning 0 (front ++ (10 ∷ more))

-- Nor does it where the line was the last and had no line end.
abbrev pub TextEnded : Type 0
TextEnded = (text more : List ℕ) (f : Fault) → (text_meaning 0 text).ending ≡ Err f → text_meaning 0 (text ++ (10 ∷ more)) ≡ text_meaning 0 text
