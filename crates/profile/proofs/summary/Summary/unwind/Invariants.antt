use Rattle.profile.specs.View.{view}
use Rattle.profile.proofs.Giving.{Along}
use Rattle.profile.proofs.summary.Summary.unwind.Given as goal

abbrev pub invariant-loop : goal.invariant-loop
invariant-loop g l = let m = g.M.Metric in Along m.measure (view m.measure m.means l.initial.self) (view m.measure m.means l.self) l.counter
