use Rattle.std.proofs.Common.{◌+◌, drop, Err, sym, ap, ◌∙◌, arith, rules}
use Rattle.std.proofs.lemmas.Result.{err_from_is_err_and}
use Rattle.trace.specs.Pieces.{pieces, first}
use Rattle.trace.specs.Text.{line_record, text_records, text_ending}
use Rattle.trace.specs.Meanings.{found_at}
use Rattle.trace.proofs.Placing.{placed}
use Rattle.trace.proofs.Cutting.{part_is}
use Rattle.trace.proofs.TextSteps.{found, none_found, at_end, at_fault, at_record, line_at}
use Rattle.trace.proofs.text.TextSourceSource.next.Goals as goal

pub returns-in_default : goal.returns-in_default
returns-in_default c =
    let s = c.args.self.now in
    let n = none_found s.text.now s.at c.first_line.result c.first_line.ensures c.in_default.is in
    let k = at_end _ _ n.0 n.1 in
    record { answer = k.answer; rest = k.rest; ending = k.ending }

pub piece_end-end-requires : goal.piece_end-end-requires
piece_end-end-requires c =
    let s = c.args.self.now in
    omega (arith, (found s.text.now s.at c.in-Some.at c.first_line.result c.first_line.ensures c.in-Some.is).there)

pub returns-in_err-record : goal.returns-in_err-record
returns-in_err-record c =
    let s = c.args.self.now in
    let xs = s.text.now in
    let i = c.in-Some.at in
    let e = c.piece_end-end.result in
    let f = found xs s.at i c.first_line.result c.first_line.ensures c.in-Some.is in
    let place = c.piece_end-end.ensures.place in
    let m = line_at xs i e f.there f.some place in
    let l = line_record (first (pieces 10 (drop i xs))) in
    let h = sym c.in_err-record.was ∙ placed c.read_line.result c.map_err.result i c.map_err.ensures.cases (λ k f q. search rules) ∙ ap (λ r. found_at r i) (c.read_line.ensures ∙ ap line_record (part_is 10 xs i e place)) in
    let k = at_fault c.in_err-record.field-0.0 i l (text_records (drop (e + 1) xs)) (text_records (drop s.at xs)) (text_ending (e + 1) (drop (e + 1) xs)) (text_ending s.at (drop s.at xs)) h (sym f.records ∙ m.records) (sym f.ending ∙ m.ending) in
    let p = err_from_is_err_and c.from_residual.result c.from_residual.ensures.1 in
    record { answer = p.1 ∙ ap Err p.2 ∙ k.answer; rest = k.rest; ending = k.ending }

pub returns : goal.returns
returns c =
    let s = c.args.self.now in
    let xs = s.text.now in
    let i = c.in-Some.at in
    let e = c.piece_end-end.result in
    let f = found xs s.at i c.first_line.result c.first_line.ensures c.in-Some.is in
    let place = c.piece_end-end.ensures.place in
    let m = line_at xs i e f.there f.some place in
    let l = line_record (first (pieces 10 (drop i xs))) in
    let h = sym c.in_ok-record.was ∙ placed c.read_line.result c.map_err.result i c.map_err.ensures.cases (λ k f q. search rules) ∙ ap (λ r. found_at r i) (c.read_line.ensures ∙ ap line_record (part_is 10 xs i e place)) in
    let k = at_record c.in_ok-record.record i l (text_records (drop (e + 1) xs)) (text_records (drop s.at xs)) (text_ending (e + 1) (drop (e + 1) xs)) (text_ending s.at (drop s.at xs)) h (sym f.records ∙ m.records) (sym f.ending ∙ m.ending) in
    record { answer = k.answer; rest = k.rest; ending = k.ending }
