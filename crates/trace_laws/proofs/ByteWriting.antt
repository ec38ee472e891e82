-- Records that are written in bytes and then read are the same records. Assumes nothing.
use Rattle.std.proofs.Common.{◌≡◌, ℕ, zero, suc, ◌+◌, ◌*◌, ◌/◌, ◌%◌, ◌≤◌, Bool, true, false, cond, ltb, List, [], ◌∷◌, ◌++◌, length, drop, Ok, refl, ap, ◌∙◌, subst, arith}
use Rattle.std.proofs.lemmas.List.{append_assoc, length-append, drop_at}
use Rattle.std.proofs.lemmas.Bool.{ltb-true}
use Rattle.std.specs.List.{flat_map}
use Rattle.trace.specs.Meanings.{Meaning}
use Rattle.trace.specs.Ranges.{InRange}
use Rattle.trace.specs.Sources.{Every}
use Rattle.trace.specs.Fields.{Numbers, field_count, made}
use Rattle.trace.specs.declared.record.Record.{Record}
use Rattle.trace.specs.declared.record.Record.TheVariants.{Call, Return, Unwind, Sample}
use Rattle.trace_bytes.specs.Bytes.{fields_record, record_of, record_then, meaning_past}
use Rattle.trace_bytes.specs.Groups.{number, numbers}
use Rattle.trace.specs.declared.kind.Kind.{Kind}
use Rattle.trace.specs.declared.kind.Kind.TheVariants.{Call as IsCall, Unwind as IsUnwind, Sample as IsSample}
use Rattle.trace_laws.proofs.Made.{Fits, sample_made, fields_fit}
use Rattle.trace_laws.proofs.Spellings.{most, spellings_read}
use Rattle.trace_laws.specs.ByteLaws.{BytesReadBack}
use Rattle.trace_laws.specs.Spelling.{Spells, last, lower}
use Rattle.trace_laws.specs.Writing.{FitsTypes, fields_of, kind_byte, spelled_in, spelled, bytes_of, whole}

-- a number as it is written is a spelling of it
step_spells : (t : Bool) (n : ℕ) (bs : List ℕ) → ltb n 128 ≡ t → Spells bs (n / 128) → Spells (cond t (n ∷ []) ((128 + n % 128) ∷ bs)) n
step_spells true n bs h s = last n (ltb-true n 128 h)
step_spells false n bs h s =
    let whole_again : n % 128 + 128 * (n / 128) ≡ n = omega arith in
    subst (Spells ((128 + n % 128) ∷ bs)) whole_again (lower (n % 128) bs (n / 128) (omega arith) s)

spelled_spells : (more n : ℕ) → n ≤ most more → Spells (spelled_in more n) n
spelled_spells zero n h = last n (omega arith)
spelled_spells (suc more) n h = step_spells (ltb n 128) n (spelled_in more (n / 128)) refl (spelled_spells more (n / 128) (omega arith))

-- it is short
step_short : (t : Bool) (more n : ℕ) (bs : List ℕ) → length bs ≤ suc more → length (cond t (n ∷ []) ((128 + n % 128) ∷ bs)) ≤ suc (suc more)
step_short true more n bs h = omega arith
step_short false more n bs h = omega arith

spelled_short : (more n : ℕ) → length (spelled_in more n) ≤ suc more
spelled_short zero n = omega arith
spelled_short (suc more) n = step_short (ltb n 128) more n (spelled_in more (n / 128)) (spelled_short more (n / 128))

-- a number that is written is read
number_spelled : (n : ℕ) (more : List ℕ) → n ≤ 4294967295 → number (spelled n ++ more) ≡ Ok (n, length (spelled n))
number_spelled n more h = spellings_read (spelled n) more n (spelled_spells 4 n h) (spelled_short 4 n) h

-- these numbers
abbrev all_of : (ns : List ℕ) → Numbers (length ns)
all_of [] = tt
all_of (n ∷ ns) = (n, all_of ns)

-- numbers that are written are read
numbers_spelled : (ns more : List ℕ) → Every Fits ns → numbers (length ns) (flat_map spelled ns ++ more) ≡ Ok (all_of ns, length (flat_map spelled ns))
numbers_spelled [] more h = refl
numbers_spelled (n ∷ ns) more h =
    let others : List ℕ = flat_map spelled ns in
    let past : drop (length (spelled n)) (spelled n ++ (others ++ more)) ≡ others ++ more = drop_at (spelled n) (others ++ more) (length (spelled n)) refl in
    rw (append_assoc (spelled n) others more, number_spelled n (others ++ more) h.0, past, numbers_spelled ns more h.1, length-append (spelled n) others)

-- a record that is written is read
fields_read : (k : Kind) (bs : List ℕ) (v : Numbers (field_count k)) (n : ℕ) (r : Record) → numbers (field_count k) bs ≡ Ok (v, n) → made k v ≡ Ok r → fields_record k bs ≡ Ok (r, n)
fields_read k bs v n r e h = rw (e, h)

record_read : (r : Record) (more : List ℕ) → InRange r → FitsTypes r → record_of (kind_byte r) (flat_map spelled (fields_of r) ++ more) ≡ Ok (r, length (flat_map spelled (fields_of r)))
record_read (Call f) more h fit = fields_read IsCall (flat_map spelled (f ∷ []) ++ more) (all_of (f ∷ [])) (length (flat_map spelled (f ∷ []))) (Call f) (numbers_spelled (f ∷ []) more (fields_fit (Call f) h fit)) (rw h)
record_read Return more h fit = refl
record_read (Unwind n) more h fit = fields_read IsUnwind (flat_map spelled (n ∷ []) ++ more) (all_of (n ∷ [])) (length (flat_map spelled (n ∷ []))) (Unwind n) (numbers_spelled (n ∷ []) more (fields_fit (Unwind n) h fit)) (rw h)
record_read (Sample s) more h fit = fields_read IsSample (flat_map spelled (fields_of (Sample s)) ++ more) (all_of (fields_of (Sample s))) (length (flat_map spelled (fields_of (Sample s)))) (Sample s) (numbers_spelled (fields_of (Sample s)) more (fields_fit (Sample s) h fit)) (sample_made s h fit)

-- past the bytes of a record, what follows means the same at each place
past_all : (bs more : List ℕ) (m : Meaning) → ((p : ℕ) → meaning_past 0 p more ≡ m) → (p : ℕ) → meaning_past (length bs) p (bs ++ more) ≡ m
past_all [] more m h p = h p
past_all (b ∷ bs) more m h p = past_all bs more m h (p + 1)

-- records that are written are read
records_read : (rs : List Record) → Every InRange rs → Every FitsTypes rs → (p : ℕ) → meaning_past 0 p (bytes_of rs) ≡ whole rs
records_read [] h fit p = refl
records_read (r ∷ rs) h fit p =
    let fields : List ℕ = flat_map spelled (fields_of r) in
    let first : record_of (kind_byte r) (fields ++ bytes_of rs) ≡ Ok (r, length fields) = record_read r (bytes_of rs) h.0 fit.0 in
    ap (λ x. record_then x p (λ n. meaning_past n (p + 1) (fields ++ bytes_of rs))) first ∙ ap (λ m. record_then (Ok (r, length fields)) p (λ n. m)) (past_all fields (bytes_of rs) (whole rs) (records_read rs h.1 fit.1) (p + 1))

pub bytes_read_back : BytesReadBack
bytes_read_back rs h fit = records_read rs h fit 0
