use Rattle.std.proofs.Common.{◌+◌, get_or, drop, sym, ap, ◌∙◌, rules}
use Rattle.trace.proofs.Placing.{placed, value_through}
use Rattle.trace.specs.Kinds.{kind_of_byte}
use Rattle.trace.specs.Meanings.{found_at}
use Rattle.trace_bytes.specs.Bytes.{fields_record}
use Rattle.trace_bytes.proofs.record.read_record.Goals as goal

pub returns : goal.returns
returns c =
    let xs = c.args.bytes.now in
    let at = c.args.at in
    let h = sym c.in_ok-kind.was ∙ placed c.try_from.result c.map_err.result at c.map_err.ensures.cases (λ k f q. search rules) ∙ ap (λ r. found_at r at) c.try_from.ensures in
    c.record.ensures ∙ value_through (kind_of_byte (get_or xs at 0)) (λ k. fields_record k (drop (at + 1) xs)) at _ h
