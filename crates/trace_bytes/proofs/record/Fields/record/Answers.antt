use Rattle.std.proofs.Common.{drop, refl, ◌∙◌}
use Rattle.std.proofs.lemmas.Result.{err_from_is_err_and}
use Rattle.trace.specs.declared.kind.Kind.TheVariants.{Call as IsCall, Unwind as IsUnwind, Sample as IsSample}
use Rattle.trace_bytes.proofs.FieldSteps.{fields_made, fields_fault}
use Rattle.trace_bytes.proofs.record.Fields.record.Goals as goal

pub returns-in-Return : goal.returns-in-Return
returns-in-Return c = rw c.in-Return.is refl

pub returns-in_err-function-in-Call : goal.returns-in_err-function-in-Call
returns-in_err-function-in-Call c =
    let s = c.args.self in
    let p = err_from_is_err_and c.from_residual.result c.from_residual.ensures.1 in
    rw (p.1, p.2, c.in-Call.is) (fields_fault IsCall (drop s.at s.bytes.now) _ _ c.in_err-function-in-Call.ensures)

pub returns-in_ok-function-in-Call : goal.returns-in_ok-function-in-Call
returns-in_ok-function-in-Call c =
    let s = c.args.self in
    rw c.in-Call.is (c.sized.ensures ∙ fields_made IsCall (drop s.at s.bytes.now) _ _ _ _ c.call_of.ensures c.in_ok-function-in-Call.ensures)

pub returns-in_err-count-in-Unwind : goal.returns-in_err-count-in-Unwind
returns-in_err-count-in-Unwind c =
    let s = c.args.self in
    let p = err_from_is_err_and c.from_residual-in_err-count-in-Unwind.result c.from_residual-in_err-count-in-Unwind.ensures.1 in
    rw (p.1, p.2, c.in-Unwind.is) (fields_fault IsUnwind (drop s.at s.bytes.now) _ _ c.in_err-count-in-Unwind.ensures)

pub returns-in_ok-count-in-Unwind : goal.returns-in_ok-count-in-Unwind
returns-in_ok-count-in-Unwind c =
    let s = c.args.self in
    rw c.in-Unwind.is (c.sized-in-Unwind.ensures ∙ fields_made IsUnwind (drop s.at s.bytes.now) _ _ _ _ c.unwind_of.ensures c.in_ok-count-in-Unwind.ensures)

pub returns-in_err-step-in-Sample : goal.returns-in_err-step-in-Sample
returns-in_err-step-in-Sample c =
    let s = c.args.self in
    let p = err_from_is_err_and c.from_residual-in_err-step-in-Sample.result c.from_residual-in_err-step-in-Sample.ensures.1 in
    rw (p.1, p.2, c.in-Sample.is) (fields_fault IsSample (drop s.at s.bytes.now) _ _ c.in_err-step-in-Sample.ensures)

pub returns-in_ok-step-in-Sample : goal.returns-in_ok-step-in-Sample
returns-in_ok-step-in-Sample c =
    let s = c.args.self in
    rw c.in-Sample.is (c.sized-in-Sample.ensures ∙ fields_made IsSample (drop s.at s.bytes.now) _ _ _ _ c.sample_of.ensures c.in_ok-step-in-Sample.ensures)
