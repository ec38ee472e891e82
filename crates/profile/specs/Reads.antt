-- What a read-in adds, where it stops and what it leaves of its source. Assumes nothing.
use Rattle.std.specs.Prelude.{◌≡◌, ℕ, ◌<◌, ◌≤◌, List, [], ◌∷◌, ◌++◌, length, take, drop, fold, Ok, Err, Result}
use Rattle.trace.specs.declared.record.Record.{Record}
use Rattle.trace.specs.Sources.{Ending}
use Rattle.rows.specs.declared.rejection.Rejection.{Rejection}
use Rattle.profile.specs.declared.reading.Stop.{Stop}
use Rattle.profile.specs.declared.reading.Stop.TheVariants.{Limit, End, Faulted, Rejected}
use Rattle.metrics.specs.Measures.{Measure}
use Rattle.profile.specs.Given.{Held, step, Accepts, Refuses}

-- several records more
abbrev pub steps : {M : Type 0} → Measure M → Held M → List Record → Held M
steps m = fold (step m)

-- how a read-in stops that meets the ending
abbrev pub stop_at : Ending → Stop
stop_at (Ok _) = End
stop_at (Err f) = Faulted f

-- Why a read-in stopped that added count records and left the summary a, where the source then had rest: the limit was reached; else the
-- source was at its ending; else a rejects the next record, which has left the source.
pub data Stops {M : Type 0} (a : Held M) (limit count : ℕ) (rest rest' : List Record) (e : Ending) (stop : Stop) : Type 0 where
  limited : count ≡ limit → stop ≡ Limit → rest' ≡ rest → Stops a limit count rest rest' e stop
  ended : count < limit → rest ≡ [] → stop ≡ stop_at e → rest' ≡ [] → Stops a limit count rest rest' e stop
  refused : (r : Record) (x : Rejection) → count < limit → rest ≡ r ∷ rest' → Refuses a r x → stop ≡ Rejected x → Stops a limit count rest rest' e stop

-- The first count records of the source are added to a, each accepted by what stood before it, which leaves b; the others stay in the
-- source, with the same ending.
pub record Reads {M : Type 0} (m : Measure M) (a b : Held M) (records records' : List Record) (e e' : Ending) (limit count : ℕ) (stop : Stop) : Type 0 where
  pub enough : count ≤ length records
  pub each : (front : List Record) (r : Record) (back : List Record) → take count records ≡ front ++ (r ∷ back) → Accepts (steps m a front) r
  pub left : b ≡ steps m a (take count records)
  pub ending : e' ≡ e
  pub stops : Stops b limit count (drop count records) records' e stop

-- One record is added, or what stopped that: a read-in of limit 1.
abbrev pub ReadsOne : {M : Type 0} → Measure M → Held M → Held M → List Record → List Record → Ending → Ending → Result (Unit {0}) Stop → Type 0
ReadsOne m a b records records' e e' (Ok _) = Reads m a b records records' e e' 1 1 Limit
ReadsOne m a b records records' e e' (Err stop) = Reads m a b records records' e e' 1 0 stop
