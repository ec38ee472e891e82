-- A text has no more records than bytes and one, so a read-in of it does not reach its limit. Assumes nothing.
use Rattle.std.proofs.Common.{◌≡◌, ℕ, suc, ◌<◌, ◌≤◌, Bool, true, false, cond, eqb, List, [], ◌∷◌, length, Ok, Err, Result, sym, ◌∙◌, arith}
use Rattle.trace.specs.declared.record.Record.{Record}
use Rattle.trace.specs.declared.fault.Cause.{Cause}
use Rattle.trace.specs.Sources.{Ending}
use Rattle.trace.specs.Pieces.{onto, pieces}
use Rattle.trace.specs.Text.{line_record, record_then, line_records, lines, text_records}
use Rattle.profile.specs.declared.reading.Stop.{Stop}
use Rattle.profile.specs.declared.reading.Stop.TheVariants.{Limit}
use Rattle.profile.specs.Given.{Held}
use Rattle.profile.specs.Reads.{stop_at, Stops, limited, ended, refused}

onto_long : (b : ℕ) (ps : List (List ℕ)) → length (onto b ps) ≤ suc (length ps)
onto_long b [] = omega arith
onto_long b (p ∷ ps) = omega arith

cut_long : (x : Bool) (b n : ℕ) (ps : List (List ℕ)) → length ps ≤ n → length (cond x ([] ∷ ps) (onto b ps)) ≤ suc n
cut_long true b n ps h = omega arith
cut_long false b n ps h = omega (arith, onto_long b ps)

pieces_long : (sep : ℕ) (bs : List ℕ) → length (pieces sep bs) ≤ suc (length bs)
pieces_long sep [] = omega arith
pieces_long sep (b ∷ bs) = cut_long (eqb b sep) b (suc (length bs)) (pieces sep bs) (pieces_long sep bs)

then_long : (r : Result Record Cause) (rs : List Record) → length (record_then r rs) ≤ suc (length rs)
then_long (Ok r) rs = omega arith
then_long (Err c) rs = omega arith

records_long : (ls : List (List ℕ)) → length (line_records ls) ≤ length ls
records_long [] = omega arith
records_long ([] ∷ ls) = omega (arith, records_long ls)
records_long ((b ∷ bs) ∷ ls) = omega (arith, records_long ls, then_long (line_record (b ∷ bs)) (line_records ls))

pub text_few : (text : List ℕ) → length (text_records text) ≤ suc (length text)
text_few text = omega (arith, records_long (lines text), pieces_long 10 text)

ending_limit : (e : Ending) → stop_at e ≡ Limit → ⊥
ending_limit (Ok _) h = let z : ◌≡◌ {A = ℕ} 0 1 = cc in omega arith
ending_limit (Err f) h = let z : ◌≡◌ {A = ℕ} 0 1 = cc in omega arith

pub stops_below : {M : Type 0} {a : Held M} {limit count : ℕ} {rest rest' : List Record} {e : Ending} {stop : Stop} → Stops a limit count rest rest' e stop → count < limit → stop ≡ Limit → ⊥
stops_below (limited h is z) l x = omega arith
stops_below {e = e} (ended below h is z) l x = ending_limit e (sym is ∙ x)
stops_below (refused r x below h j is) l y = let z : ◌≡◌ {A = ℕ} 0 1 = cc in omega arith
