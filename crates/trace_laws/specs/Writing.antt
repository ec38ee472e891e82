-- How records are written in each format. Assumes nothing.
use Rattle.std.specs.Prelude.{◌≡◌, ℕ, zero, suc, ◌+◌, ◌/◌, ◌%◌, Bool, true, cond, ◌&&◌, List, [], ◌∷◌, ◌++◌, codes, decimal, nat_le, nat_lt, Ok}
use Rattle.std.specs.List.{flat_map}
use Rattle.trace.specs.Meanings.{Meaning}
use Rattle.trace.specs.declared.record.Record.{Record}
use Rattle.trace.specs.declared.record.Record.TheVariants.{Call, Return, Unwind, Sample}

-- A sample's step and site are within what their types hold, 32 bits and 16. `in_range` leaves these two to the types, but a record of a law
-- has any numbers as its fields; the other fields are as small as their types by their ranges.
abbrev pub fits_types : Record → Bool
fits_types (Call f) = true
fits_types Return = true
fits_types (Unwind n) = true
fits_types (Sample s) = nat_le s.step 4294967295 && nat_le s.site 65535

abbrev pub FitsTypes : Record → Type 0
FitsTypes r = fits_types r ≡ true

-- a record's fields in their order
abbrev pub fields_of : Record → List ℕ
fields_of (Call f) = f ∷ []
fields_of Return = []
fields_of (Unwind n) = n ∷ []
fields_of (Sample s) = s.step ∷ (s.weight ∷ (s.site ∷ (s.region ∷ [])))

-- the byte that tells a record's kind
abbrev pub kind_byte : Record → ℕ
kind_byte (Call f) = 1
kind_byte Return = 2
kind_byte (Unwind n) = 3
kind_byte (Sample s) = 4

-- A number in its fewest groups of seven bits, the lowest first, of which at most `more` follow the first.
abbrev pub spelled_in : ℕ → ℕ → List ℕ
spelled_in zero n = n ∷ []
spelled_in (suc more) n = cond (nat_lt n 128) (n ∷ []) ((128 + n % 128) ∷ spelled_in more (n / 128))

-- a number in bytes
abbrev pub spelled : ℕ → List ℕ
spelled n = spelled_in 4 n

-- a record in bytes
abbrev pub in_bytes : Record → List ℕ
in_bytes r = kind_byte r ∷ flat_map spelled (fields_of r)

-- records in bytes, one after the other
abbrev pub bytes_of : List Record → List ℕ
bytes_of rs = flat_map in_bytes rs

-- the word that names a record's kind
abbrev pub word_of : Record → List ℕ
word_of (Call f) = codes "call"
word_of Return = codes "back"
word_of (Unwind n) = codes "unwind"
word_of (Sample s) = codes "sample"

-- a record as a line: its word, each field after a space, and the line end
abbrev pub line_of : Record → List ℕ
line_of r = word_of r ++ (flat_map (λ n. 32 ∷ decimal n) (fields_of r) ++ (10 ∷ []))

-- records as text, a line for each
abbrev pub text_of : List Record → List ℕ
text_of rs = flat_map line_of rs

-- these records, and then the end
abbrev pub whole : List Record → Meaning
whole rs = record { records = rs; ending = Ok tt }
