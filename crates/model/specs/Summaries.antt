-- The summary of a list of records, and the join of two. Assumes nothing.
use Rattle.std.specs.Prelude.{◌≡◌, ℕ, ◌+◌, ◌-◌, Bool, true, false, cond, ◌&&◌, ◌||◌, List, [], ◌∷◌, ◌++◌, length, take, drop, nat_le}
use Rattle.trace.specs.declared.record.Record.{Record}
use Rattle.trace.specs.declared.record.Record.TheVariants.{Call, Return, Unwind, Sample}
use Rattle.model.specs.Positions.{Path, Position, at, start, move, ends, same, same_path, moved}
use Rattle.metrics.specs.Measures.{Measure}
use Rattle.metrics.specs.Joins.{joins, gathered, over, calling}

-- A record's context with its value: a call's context is the position after it, a sample's the position at it;
-- returns and unwinds have none.
abbrev pub booking : {M : Type 0} → Measure M → Position → Record → List (Position × M)
booking m p (Call f) = (move p (Call f), m.of_call) ∷ []
booking m p Return = []
booking m p (Unwind n) = []
booking m p (Sample s) = (p, m.of_sample s) ∷ []

abbrev pub bookings : {M : Type 0} → Measure M → Position → List Record → List (Position × M)
bookings m p [] = []
bookings m p (r ∷ rs) = booking m p r ++ bookings m (move p r) rs

pub record Summary (M : Type 0) : Type 0 where
  -- the final level, and the open path
  pub end : Position
  -- whether there is a row at a context
  pub row : Position → Bool
  -- its value; where there is no row, the unit
  pub value : Position → M

-- the join of the values of the records at exactly x
abbrev pub value_at : {M : Type 0} → Measure M → Position → List Record → Position → M
value_at m p xs x = joins m (same x) (bookings m p xs)

-- which is their join in list order, from the unit
abbrev pub InOrder : {M : Type 0} → Measure M → Type 0
InOrder m = (xs : List Record) (x : Position) → gathered m m.none (same x) (bookings m start xs) ≡ value_at m start xs x

-- x has the empty path and a level of 0 to l
abbrev pub rooted : ℕ → Position → Bool
rooted l x = same_path x.path [] && nat_le x.level l

-- there is one row with the empty path for each level 0 to the last, and one for each context of a call
abbrev pub summary : {M : Type 0} → Measure M → List Record → Summary M
summary m xs = record {
  end = ends start xs;
  row = λ x. rooted (ends start xs).level x || value_at calling start xs x;
  value = λ x. value_at m start xs x;
}

-- Of the contexts at level j the one that may go to y when put after e: y's path without what stays of e's.
abbrev pub source : Position → Position → ℕ → Position
source e y j = at j (take (length y.path - length (drop j e.path)) y.path)

-- the join of v over the contexts that go to y: of each level j there is one at most, and none above the last
abbrev pub meeting : {M : Type 0} → Measure M → Position → (Position → M) → Position → M
meeting m e v y = over m (length e.path + y.level) (λ j. cond (same y (moved e (source e y j))) (v (source e y j)) m.none)

-- B put after A
abbrev pub joined : {M : Type 0} → Measure M → Summary M → Summary M → Summary M
joined m a b = record {
  end = moved a.end b.end;
  row = λ y. a.row y || meeting calling a.end b.row y;
  value = λ y. m.join (a.value y) (meeting m a.end b.value y);
}

-- two lists of records in a row have the join of their summaries
abbrev pub Joins : {M : Type 0} → Measure M → Type 0
Joins m = (xs ys : List Record) → summary m (xs ++ ys) ≡ joined m (summary m xs) (summary m ys)

-- One record more. A call adds its context's row where there is none, a return the rows with the empty path up to the new level.
abbrev pub added : {M : Type 0} → Measure M → Summary M → Record → Summary M
added m a (Call f) = record {
  end = move a.end (Call f);
  row = λ x. a.row x || same x (move a.end (Call f));
  value = λ x. cond (same x (move a.end (Call f))) (m.join (a.value x) m.of_call) (a.value x);
}
added m a Return = record {
  end = move a.end Return;
  row = λ x. a.row x || rooted (move a.end Return).level x;
  value = a.value;
}
added m a (Unwind n) = record {
  end = move a.end (Unwind n);
  row = λ x. a.row x || rooted (move a.end (Unwind n)).level x;
  value = a.value;
}
added m a (Sample s) = record {
  end = a.end;
  row = a.row;
  value = λ x. cond (same x a.end) (m.join (a.value x) (m.of_sample s)) (a.value x);
}

abbrev pub Adds : {M : Type 0} → Measure M → Type 0
Adds m = (xs : List Record) (r : Record) → summary m (xs ++ (r ∷ [])) ≡ added m (summary m xs) r

-- some row passes
abbrev pub any_of : {K M : Type 0} → (K → Bool) → List (K × M) → Bool
any_of test [] = false
any_of test (r ∷ rows) = test r.0 || any_of test rows

-- Rows that show a summary: their contexts are its rows', and at each their values join to its value.
pub record Shown {M : Type 0} (m : Measure M) (rows : List (Position × M)) (a : Summary M) : Type 0 where
  pub there : (x : Position) → any_of (same x) rows ≡ a.row x
  pub worth : (x : Position) → joins m (same x) rows ≡ a.value x

-- The join by rows, whichever rows show B: each goes where the rule says, and where rows meet, their values join.
pub record ByRows {M : Type 0} (m : Measure M) (a b : Summary M) (rows : List (Position × M)) : Type 0 where
  pub there : (y : Position) → (joined m a b).row y ≡ (a.row y || any_of (λ x. same y (moved a.end x)) rows)
  pub worth : (y : Position) → (joined m a b).value y ≡ m.join (a.value y) (joins m (λ x. same y (moved a.end x)) rows)

abbrev pub JoinsRows : {M : Type 0} → Measure M → Type 0
JoinsRows {M} m = (a b : Summary M) (rows : List (Position × M)) → Shown m rows b → ByRows m a b rows

-- with each path there is the path without its last function, and the open path has a row
pub record Prefixed {M : Type 0} (a : Summary M) : Type 0 where
  pub shorter : (l f : ℕ) (q : Path) → a.row (at l (f ∷ q)) ≡ true → a.row (at l q) ≡ true
  pub opened : a.row a.end ≡ true

abbrev pub Prefixes : {M : Type 0} → Measure M → Type 0
Prefixes m = (xs : List Record) → Prefixed (summary m xs)

-- where there is no row, there is no record: a sample's context too has a row
abbrev pub Rowless : {M : Type 0} → Measure M → Type 0
Rowless m = (xs : List Record) (x : Position) → (summary m xs).row x ≡ false → (summary m xs).value x ≡ m.none
