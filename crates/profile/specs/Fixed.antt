-- What a read-in was given fixes what it answers and what it leaves. Assumes nothing.
use Rattle.std.specs.Prelude.{◌≡◌, ◌≢◌, ℕ, List}
use Rattle.trace.specs.declared.record.Record.{Record}
use Rattle.trace.specs.Sources.{Ending}
use Rattle.metrics.specs.Measures.{Measure}
use Rattle.rows.specs.declared.rejection.Rejection.TheVariants.{OutOfRange}
use Rattle.profile.specs.declared.reading.Stop.{Stop}
use Rattle.profile.specs.declared.reading.Stop.TheVariants.{Rejected}
use Rattle.profile.specs.Given.{Held}
use Rattle.profile.specs.Reads.{Reads}

-- two outcomes are the same: the summary left, the records left, their ending, the count and the stop
pub record SameOutcome {M : Type 0} (b c : Held M) (left left' : List Record) (e e' : Ending) (count count' : ℕ) (stop stop' : Stop) : Type 0 where
  pub summary : b ≡ c
  pub records : left ≡ left'
  pub ending : e ≡ e'
  pub added : count ≡ count'
  pub stopped : stop ≡ stop'

-- Whatever a source's records and ending, the summary and the limit are, a read-in can only come out in one way. So it stops for the limit
-- exactly where that is reached, for the ending exactly where the records were used up before, and else for a rejection.
abbrev pub ReadsFixed : {M : Type 0} → Measure M → Type 0
ReadsFixed {M} m = (a b c : Held M) (records left left' : List Record) (e f f' : Ending) (limit count count' : ℕ) (stop stop' : Stop) → Reads m a b records left e f limit count stop → Reads m a c records left' e f' limit count' stop' → SameOutcome b c left left' f f' count count' stop stop'

-- A rejection of what a source delivers is never for a field out of range.
abbrev pub NeverOutOfRange : Stop → Type 0
NeverOutOfRange stop = stop ≢ Rejected OutOfRange
