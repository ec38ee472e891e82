-- From what the calls of `print_trace` ensure to what is printed. Assumes nothing.
use Rattle.std.proofs.Common.{◌≡◌, ℕ, ◌<◌, ◌≤◌, List, length, Ok, Err, MatchBool, Result, refl, sym, ap, subst, arith}
use Rattle.std.proofs.lemmas.Bool.{le-ltb, lt-ltb}
use Rattle.trace.specs.declared.record.Record.{Record}
use Rattle.trace.specs.Sources.{Ending}
use Rattle.trace.specs.Text.{text_records, text_ending}
use Rattle.metrics.specs.Sums.{Capped}
use Rattle.profile.specs.declared.reading.Stop.{Stop}
use Rattle.profile.specs.declared.reading.Stop.TheVariants.{Limit}
use Rattle.profile.specs.Given.{Held}
use Rattle.profile.specs.View.{fresh}
use Rattle.profile.specs.Reads.{Reads}
use Rattle.report.specs.declared.page.StopLine.{StopLine}
use Rattle.printing.specs.declared.PrintError.{PrintError}
use Rattle.printing.specs.declared.PrintError.TheVariants.{Stopped, NoMemory}
use Rattle.printing.specs.Prints.{cost, stopping, Reading, Came, Tells, GoesOn, Halts, stop_line}
use Rattle.printing.proofs.Few.{text_few, stops_below}

-- an error that tells the line is what a text that stops with it comes to
pub told : (text : List ℕ) (e : PrintError) (line : StopLine) → Came text (Err line) → Tells e line → Halts text e
told text (Stopped s) line came tells = (line, came, tells)
told text (NoMemory e) line came tells = tt

pub halted : (text : List ℕ) (line : Result (Unit {0}) StopLine) (e : PrintError) → Came text line → GoesOn line (Err e) → Halts text e
halted text (Ok u) e came h = absurd h
halted text (Err l) e came h = told text e l came h

pub went_on : (text : List ℕ) (line : Result (Unit {0}) StopLine) (v : Unit {0}) → Came text line → GoesOn line (Ok v) → Came text (Ok tt)
went_on text (Ok u) v came h = came
went_on text (Err l) v came h = absurd h

pub too_long_came : (text : List ℕ) → 65536 < length text → Came text (Err (stop_line 15 65536 0))
too_long_came text h = subst (λ t. MatchBool t (◌≡◌ {A = Result (Unit {0}) StopLine} (Err (stop_line 15 65536 0)) (Err (stop_line 15 65536 0))) (Reading text (Err (stop_line 15 65536 0)))) (sym (lt-ltb 65536 (length text) h)) refl

module _ (text : List ℕ) (a b : Held (Capped × Capped)) (xs rest : List Record) (e e' : Ending) (count : ℕ) (stop : Stop) (reads : Reads cost a b xs rest e e' 65538 count stop) (ea : a ≡ fresh cost 1024) (ex : xs ≡ text_records text) (ee : e ≡ text_ending 0 text) (few : length text ≤ 65536) where
  pub below_limit : stop ≡ Limit → ⊥
  below_limit = stops_below reads.stops (omega (arith, reads.enough, ap length ex, text_few text))

  whole : Reads cost (fresh cost 1024) b (text_records text) rest (text_ending 0 text) e' 65538 count stop
  whole = subst (λ u. Reads cost u b (text_records text) rest (text_ending 0 text) e' 65538 count stop) ea (subst (λ u. Reads cost a b u rest (text_ending 0 text) e' 65538 count stop) ex (subst (λ u. Reads cost a b xs rest u e' 65538 count stop) ee reads))

  pub came : (line : Result (Unit {0}) StopLine) → line ≡ stopping count stop → Came text line
  came line is = subst (λ t. MatchBool t (line ≡ Err (stop_line 15 65536 0)) (Reading text line)) (sym (le-ltb 65536 (length text) few))
      (record { left = b; rest = rest; ending = e'; count = count; stop = stop; reads = whole; unlimited = below_limit; is = is })
