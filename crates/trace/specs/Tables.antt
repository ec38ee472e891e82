-- What a table of decoded records means. Assumes nothing.
use Rattle.std.specs.Prelude.{ℕ, ◌+◌, List, [], ◌∷◌, drop}
use Rattle.trace.specs.Meanings.{Meaning, nothing, followed, ranged_only, ranged_only_good, followed_ranged}
use Rattle.trace.specs.Ranges.{InRange}
use Rattle.trace.specs.Sources.{Every}
use Rattle.trace.specs.declared.record.Record.{Record}
use Rattle.trace.specs.declared.table.TableSource.{TableSource}

-- Each record in turn, if it is in range; the first stands at index p.
abbrev pub table_meaning : ℕ → List Record → Meaning
table_meaning p [] = nothing
table_meaning p (r ∷ rs) = followed (ranged_only r) p (table_meaning (p + 1) rs)

-- what a source has still to give
abbrev pub table_left : TableSource → Meaning
table_left s = table_meaning s.at (drop s.at s.table.now)

pub table_ranged : (p : ℕ) (rs : List Record) → Every InRange (table_meaning p rs).records
table_ranged p [] = tt
table_ranged p (r ∷ rs) = followed_ranged (ranged_only r) p _ (ranged_only_good r) (table_ranged (p + 1) rs)
