use Rattle.std.proofs.Common.{◌≡◌, length}
use Rattle.trace_export.specs.Digest.{digest_from}
use Rattle.trace_export.proofs.digest.Given as goal

-- what is left gives after the sum so far what all gives after the first
abbrev pub invariant-records : goal.invariant-records
invariant-records g l =
    let s = g.S.Source in
    digest_from l.sum (s.records l.source) (s.ending l.source) ≡ digest_from l.first (s.records l.initial.source) (s.ending l.initial.source)

abbrev pub decreases-records : goal.decreases-records
decreases-records g l = length (g.S.Source.records l.source)
