use Rattle.profile.specs.declared.reading.Stop.TheVariants.{Limit}
use Rattle.profile.specs.View.{view}
use Rattle.profile.specs.Reads.{Reads}
use Rattle.profile.proofs.reading.read_in.Given as goal

-- so far it is a read-in whose limit is reached
abbrev pub invariant-loop-added : goal.invariant-loop-added
invariant-loop-added g l =
    let m = g.M.Metric in
    let s = g.S.Source in
    Reads m.measure (view m.measure m.means l.initial.summary) (view m.measure m.means l.summary) (s.records l.initial.source) (s.records l.source) (s.ending l.initial.source) (s.ending l.source) l.added l.added Limit
