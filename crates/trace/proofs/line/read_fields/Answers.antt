use Rattle.std.proofs.Common.{ap, ◌∙◌, Ok, arith}
use Rattle.std.proofs.lemmas.List.{length-replicate}
use Rattle.std.proofs.lemmas.Result.{err_from_is_err_and}
use Rattle.trace.specs.Text.{and_then}
use Rattle.trace.proofs.LineSteps.{reading_none, reading_more, reading_fault, reading_all}
use Rattle.trace.proofs.line.read_fields.Goals as goal

pub loop-field-init : goal.loop-field-init
loop-field-init g c = reading_none _ _ _ (length-replicate g.row.N 0)

pub loop-field-preserved : goal.loop-field-preserved
loop-field-preserved g c = reading_more _ _ _ _ _ _ _ c.loop-field.invariant (omega (arith, c.loop-field-test.true, c.loop-field.invariant.room)) c.in_ok-field.ensures.field c.in_ok-field.ensures.rest

pub returns-in_err-field : goal.returns-in_err-field
returns-in_err-field g c = let p = err_from_is_err_and c.from_residual.result c.from_residual.ensures.1 in rw (p.1, p.2) (reading_fault _ _ _ _ _ _ c.loop-field.invariant (omega (arith, c.loop-field-test.true, c.loop-field.invariant.room)) c.in_err-field.ensures.field)

pub returns-in_err-read_end : goal.returns-in_err-read_end
returns-in_err-read_end g c =
    let p = err_from_is_err_and c.from_residual-in_err-read_end.result c.from_residual-in_err-read_end.ensures.1 in
    rw (p.1, p.2) (ap (λ r. and_then r (λ v. Ok c.loop-field.field-items)) c.in_err-read_end.ensures ∙ reading_all _ _ _ _ _ c.loop-field.invariant (omega (arith, c.loop-field-test.false, c.loop-field.invariant.room)))

pub returns : goal.returns
returns g c = ap (λ r. and_then r (λ v. Ok c.loop-field.field-items)) c.in_ok-read_end.ensures ∙ reading_all _ _ _ _ _ c.loop-field.invariant (omega (arith, c.loop-field-test.false, c.loop-field.invariant.room))
