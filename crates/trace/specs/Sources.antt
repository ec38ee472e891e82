-- What a source answers, by the records still to come and the ending after them. Assumes nothing.
use Rattle.std.specs.Prelude.{List, [], ◌∷◌, Some, None, Ok, Err, Option, Result}
use Rattle.trace.specs.declared.fault.Fault.{Fault}
use Rattle.trace.specs.declared.record.Record.{Record}

-- P holds of each
abbrev pub Every : {X : Type 0} → (X → Type 0) → List X → Type 0
Every P [] = Unit {0}
Every P (x ∷ xs) = P x × Every P xs

-- what comes after the last record: `Ok tt` is the end, `Err f` the fault f
abbrev pub Ending : Type 0
Ending = Result (Unit {0}) Fault

-- what is answered where no record is left
abbrev pub at_ending : Ending → Result (Option Record) Fault
at_ending (Ok _) = Ok None
at_ending (Err f) = Err f

-- the first record, else the ending
abbrev pub answered : List Record → Ending → Result (Option Record) Fault
answered [] e = at_ending e
answered (x ∷ xs) e = Ok (Some x)

-- all but the first
abbrev pub rest : {X : Type 0} → List X → List X
rest [] = []
rest (x ∷ xs) = xs
