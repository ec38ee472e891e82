use Rattle.std.proofs.Common.{arith}
use Rattle.std.proofs.lemmas.List.{length-replicate}
use Rattle.std.proofs.lemmas.Result.{err_from_is_err_and}
use Rattle.trace_bytes.proofs.FieldSteps.{reading_none, reading_more, reading_fault, reading_all}
use Rattle.trace_bytes.proofs.record.Fields.read.Goals as goal

pub loop-number-init : goal.loop-number-init
loop-number-init g c = reading_none _ _ _ _ (length-replicate g.row.N 0) c.args.self.within

pub loop-number-preserved : goal.loop-number-preserved
loop-number-preserved g c = reading_more _ _ _ _ _ _ _ _ _ c.loop-number.invariant (omega (arith, c.loop-number-test.true, c.loop-number.invariant.room)) c.in_ok-value.ensures.value c.in_ok-value.ensures.within

pub returns-in_err-value : goal.returns-in_err-value
returns-in_err-value g c =
    let p = err_from_is_err_and c.from_residual.result c.from_residual.ensures.1 in
    rw (p.1, p.2) (reading_fault _ _ _ _ _ _ _ _ c.loop-number.invariant (omega (arith, c.loop-number-test.true, c.loop-number.invariant.room)) c.in_err-value.ensures.value)

pub returns : goal.returns
returns g c = reading_all _ _ _ _ _ _ _ c.loop-number.invariant (omega (arith, c.loop-number-test.false, c.loop-number.invariant.room))
