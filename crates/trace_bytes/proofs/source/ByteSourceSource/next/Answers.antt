use Rattle.std.proofs.Common.{◌+◌, ◌≤◌, length, get_or, drop, Err, sym, ap, ◌∙◌, arith, rules, length-drop}
use Rattle.std.proofs.lemmas.Result.{err_from_is_err_and}
use Rattle.trace_bytes.specs.Bytes.{record_of}
use Rattle.trace.proofs.Placing.{found_ok}
use Rattle.trace_bytes.proofs.TakenSteps.{record_there}
use Rattle.trace_bytes.proofs.RecordSteps.{past_record, record_at, faulted, delivered}
use Rattle.trace_bytes.proofs.source.ByteSourceSource.next.Goals as goal

pub overflow_add-self-2 : goal.overflow_add-self-2
overflow_add-self-2 c =
    let s = c.args.self.now in
    let xs = s.bytes.now in
    let r = found_ok (record_of (get_or xs s.at 0) (drop (s.at + 1) xs)) s.at _ c.in_ok-record.ensures in
    let t : c.in_ok-record.taken ≤ length (drop (s.at + 1) xs) = record_there (get_or xs s.at 0) (drop (s.at + 1) xs) _ r in
    let w : s.at + 1 + c.in_ok-record.taken ≤ length xs = omega (arith, length-drop (s.at + 1) xs) in
    search rules

pub returns-in_err-record : goal.returns-in_err-record
returns-in_err-record c =
    let s = c.args.self.now in
    let xs = s.bytes.now in
    let e = err_from_is_err_and c.from_residual.result c.from_residual.ensures.1 in
    let k = faulted (record_of (get_or xs s.at 0) (drop (s.at + 1) xs)) s.at _ _ _ (record_at xs s.at c.if-at-self.false) c.in_err-record.ensures in
    record { answer = e.1 ∙ ap Err e.2 ∙ k.answer; rest = k.rest; ending = k.ending }

pub returns : goal.returns
returns c =
    let s = c.args.self.now in
    let xs = s.bytes.now in
    let k = delivered (record_of (get_or xs s.at 0) (drop (s.at + 1) xs)) s.at _ _ _ _ (record_at xs s.at c.if-at-self.false) c.in_ok-record.ensures in
    let past = past_record c.in_ok-record.taken s.at xs in
    record { answer = k.answer; rest = ap (λ m. m.records) (sym past) ∙ k.rest; ending = ap (λ m. m.ending) (sym past) ∙ k.ending }
