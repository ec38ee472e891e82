-- What a call with one record answers, and what a summary is after it. Assumes nothing.
use Rattle.std.specs.Prelude.{◌≡◌, ℕ, ◌+◌, ◌-◌, ◌<◌, ◌≤◌, true, cond, List, length, Ok, Err, Result}
use Rattle.trace.specs.declared.record.Record.{Record}
use Rattle.trace.specs.declared.record.Record.TheVariants.{Call, Return, Unwind, Sample}
use Rattle.trace.specs.Ranges.{from_to, InRange}
use Rattle.rows.specs.declared.rejection.Rejection.{Rejection}
use Rattle.rows.specs.declared.rejection.Rejection.TheVariants.{OutOfRange, TableSize, TooFewRows, PathTooLong}
use Rattle.metrics.specs.Measures.{Measure}
use Rattle.model.specs.Positions.{Position, move}
use Rattle.model.specs.Limits.{among, apart}
use Rattle.model.specs.Summaries.{Summary, added, Prefixed, rooted}

-- a summary in a table: how many rows it has, and how many the table has
pub record Held (M : Type 0) : Type 0 where
  pub is : Summary M
  pub count : ℕ
  pub room : ℕ

-- a table has 1 to 65,535 rows
abbrev pub tabled : ℕ → Result (Unit {0}) Rejection
tabled room = cond (from_to 1 65535 room) (Ok tt) (Err TableSize)

-- how many rows one record adds
abbrev pub need : {M : Type 0} → Summary M → Record → ℕ
need a (Call f) = cond (a.row (move a.end (Call f))) 0 1
need a Return = 1 - length a.end.path
need a (Unwind n) = n - length a.end.path
need a (Sample s) = 0

-- one record more
abbrev pub step : {M : Type 0} → Measure M → Held M → Record → Held M
step m a r = record { is = added m a.is r; count = a.count + need a.is r; room = a.room }

-- When a accepts r: each field is in range, no path becomes longer than 512, and the table has room.
pub record Accepts {M : Type 0} (a : Held M) (r : Record) : Type 0 where
  pub ranged : InRange r
  pub shallow : length (move a.is.end r).path ≤ 512
  pub fits : a.count + need a.is r ≤ a.room

-- When r is rejected by a, and how: a field is out of range, else the path is too long, else the table too small.
abbrev pub Refuses : {M : Type 0} → Held M → Record → Rejection → Type 0
Refuses a r OutOfRange = InRange r → ⊥
Refuses a r TableSize = ⊥
Refuses a r PathTooLong = InRange r × (512 < length (move a.is.end r).path)
Refuses a r TooFewRows = InRange r × (length (move a.is.end r).path ≤ 512) × (a.room < a.count + need a.is r)

-- Call, return, unwind and sample: one record more, or a rejection that leaves a as it was.
abbrev pub Given : {M : Type 0} → Measure M → Held M → Held M → Record → Result (Unit {0}) Rejection → Type 0
Given m a b r (Ok _) = Accepts a r × (b ≡ step m a r)
Given m a b r (Err e) = (b ≡ a) × Refuses a r e

-- What holds of every summary in its table: each row's context is there once, the open path has its row, and with each path
-- there is the path without its last function; each level up to the last has its row with the empty path.
pub record Complete {M : Type 0} (a : Held M) : Type 0 where
  pub rows : List Position
  pub once : apart rows ≡ true
  pub each : (x : Position) → among rows x ≡ a.is.row x
  pub many : length rows ≡ a.count
  pub fits : a.count ≤ a.room
  pub prefixed : Prefixed a.is
  pub rooted : (x : Position) → rooted a.is.end.level x ≡ true → a.is.row x ≡ true
  pub shallow : (x : Position) → a.is.row x ≡ true → length x.path ≤ 512
