use Rattle.std.proofs.Common.{◌≡◌, ◌+◌, true, false, drop, sym, refl, ap, ◌∙◌}
use Rattle.trace.specs.Pieces.{pieces, first}
use Rattle.trace.specs.Words.{is_digits, digits, a_word}
use Rattle.trace.proofs.Cutting.{part_is}
use Rattle.trace.proofs.WordSteps.{one_word}
use Rattle.trace.proofs.token.Tokens.next.Goals as goal

pub returns-then-is_digits : goal.returns-then-is_digits
returns-then-is_digits c =
    let s = c.args.self.now in
    let e = c.piece_end-end.ensures.place in
    let p = part_is 32 s.line.now s.at c.piece_end-end.result e in
    let d : is_digits (first (pieces 32 (drop s.at s.line.now))) ≡ true = sym (ap is_digits p) ∙ sym c.if-is_digits.ensures in
    let k = one_word s.line.now s.at c.piece_end-end.result c.if-at-line.false e in
    rw k (record { token = ap (λ w. digits w s.at) p ∙ rw d; rest = refl; place = ap (λ n. n + 1) e })

pub returns-else-is_digits : goal.returns-else-is_digits
returns-else-is_digits c =
    let s = c.args.self.now in
    let e = c.piece_end-end.ensures.place in
    let p = part_is 32 s.line.now s.at c.piece_end-end.result e in
    let d : is_digits (first (pieces 32 (drop s.at s.line.now))) ≡ false = sym (ap is_digits p) ∙ sym c.if-is_digits.ensures in
    let k = one_word s.line.now s.at c.piece_end-end.result c.if-at-line.false e in
    rw k (record { token = ap (λ w. a_word w s.at) p ∙ rw d; rest = refl; place = ap (λ n. n + 1) e })
