use Rattle.std.proofs.Common.{◌∙◌}
use Rattle.std.proofs.lemmas.Result.{err_from_is_err_and}
use Rattle.trace.specs.Words.{words_left}
use Rattle.trace.specs.declared.kind.Kind.TheVariants.{Call as IsCall, Return as IsReturn, Unwind as IsUnwind, Sample as IsSample}
use Rattle.trace.proofs.LineSteps.{fields_made, fields_fault}
use Rattle.trace.proofs.line.read_record.Goals as goal

pub returns-in_err-function-in-Call : goal.returns-in_err-function-in-Call
returns-in_err-function-in-Call c =
    let p = err_from_is_err_and c.from_residual.result c.from_residual.ensures.1 in
    rw (p.1, p.2, c.in-Call.is) (fields_fault IsCall (words_left c.args.tokens.now) _ c.in_err-function-in-Call.ensures)

pub returns-in_ok-function-in-Call : goal.returns-in_ok-function-in-Call
returns-in_ok-function-in-Call c = rw c.in-Call.is (c.call_of.ensures ∙ fields_made IsCall (words_left c.args.tokens.now) _ c.in_ok-function-in-Call.ensures)

pub returns-in_err-read_fields-in-Return : goal.returns-in_err-read_fields-in-Return
returns-in_err-read_fields-in-Return c =
    let p = err_from_is_err_and c.from_residual-in_err-read_fields-in-Return.result c.from_residual-in_err-read_fields-in-Return.ensures.1 in
    rw (p.1, p.2, c.in-Return.is) (fields_fault IsReturn (words_left c.args.tokens.now) _ c.in_err-read_fields-in-Return.ensures)

pub returns-in_ok-read_fields-in-Return : goal.returns-in_ok-read_fields-in-Return
returns-in_ok-read_fields-in-Return c = rw c.in-Return.is (fields_made IsReturn (words_left c.args.tokens.now) _ c.in_ok-read_fields-in-Return.ensures)

pub returns-in_err-count-in-Unwind : goal.returns-in_err-count-in-Unwind
returns-in_err-count-in-Unwind c =
    let p = err_from_is_err_and c.from_residual-in_err-count-in-Unwind.result c.from_residual-in_err-count-in-Unwind.ensures.1 in
    rw (p.1, p.2, c.in-Unwind.is) (fields_fault IsUnwind (words_left c.args.tokens.now) _ c.in_err-count-in-Unwind.ensures)

pub returns-in_ok-count-in-Unwind : goal.returns-in_ok-count-in-Unwind
returns-in_ok-count-in-Unwind c = rw c.in-Unwind.is (c.unwind_of.ensures ∙ fields_made IsUnwind (words_left c.args.tokens.now) _ c.in_ok-count-in-Unwind.ensures)

pub returns-in_err-step-in-Sample : goal.returns-in_err-step-in-Sample
returns-in_err-step-in-Sample c =
    let p = err_from_is_err_and c.from_residual-in_err-step-in-Sample.result c.from_residual-in_err-step-in-Sample.ensures.1 in
    rw (p.1, p.2, c.in-Sample.is) (fields_fault IsSample (words_left c.args.tokens.now) _ c.in_err-step-in-Sample.ensures)

pub returns-in_ok-step-in-Sample : goal.returns-in_ok-step-in-Sample
returns-in_ok-step-in-Sample c = rw c.in-Sample.is (c.sample_of.ensures ∙ fields_made IsSample (words_left c.args.tokens.now) _ c.in_ok-step-in-Sample.ensures)
