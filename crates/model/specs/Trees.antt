-- The tree of a list of records. Assumes nothing.
use Rattle.std.specs.Prelude.{◌≡◌, ℕ, ◌-◌, Bool, ◌||◌, List, [], length, drop}
use Rattle.trace.specs.declared.record.Record.{Record}
use Rattle.model.specs.Positions.{Path, at, start, same_path}
use Rattle.metrics.specs.Measures.{Measure}
use Rattle.metrics.specs.Joins.{joins, over, calling}
use Rattle.model.specs.Summaries.{Summary, summary, bookings}

-- in a tree a context is its path alone
pub record Tree (M : Type 0) : Type 0 where
  pub strays : ℕ
  -- the open path's length
  pub opened : ℕ
  pub row : Path → Bool
  pub value : Path → M

-- all levels become one: rows of equal path meet, and their values join
abbrev pub finished : {M : Type 0} → Measure M → Summary M → Tree M
finished m a = record {
  strays = a.end.level;
  opened = length a.end.path;
  row = λ q. over calling a.end.level (λ j. a.row (at j q));
  value = λ q. over m a.end.level (λ j. a.value (at j q));
}

abbrev pub tree : {M : Type 0} → Measure M → List Record → Tree M
tree m xs = finished m (summary m xs)

-- r begins with q: what is left of r without its last functions, as many as it has more
abbrev pub begins : Path → Path → Bool
begins q r = same_path q (drop (length r - length q) r)

-- the rows of a table of paths: the join over those whose path begins with q
abbrev pub inclusive : {M : Type 0} → Measure M → List (Path × M) → Path → M
inclusive m rows q = joins m (begins q) rows

-- a table of rows has the values of a tree
abbrev pub Shows : {M : Type 0} → Measure M → List (Path × M) → Tree M → Type 0
Shows m rows t = (q : Path) → joins m (same_path q) rows ≡ t.value q

-- The value at a path is the join over exactly the records whose context has that path, on any level; a path has a row if it is
-- empty or a call's.
abbrev pub Values : {M : Type 0} → Measure M → Type 0
Values m = (xs : List Record) (q : Path) → (tree m xs).value q ≡ joins m (λ x. same_path q x.path) (bookings m start xs)

abbrev pub Paths : {M : Type 0} → Measure M → Type 0
Paths m = (xs : List Record) (q : Path) → (tree m xs).row q ≡ (same_path q [] || joins calling (λ x. same_path q x.path) (bookings calling start xs))

-- The inclusive value is the join over exactly the records whose context's path begins with q.
abbrev pub Inclusive : {M : Type 0} → Measure M → Type 0
Inclusive {M} m = (xs : List Record) (rows : List (Path × M)) → Shows m rows (tree m xs) → (q : Path) → inclusive m rows q ≡ joins m (λ x. begins q x.path) (bookings m start xs)
