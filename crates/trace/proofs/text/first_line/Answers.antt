use Rattle.std.proofs.Common.{ℕ, ◌==◌, ◌+◌, not, drop, sym, ap, ◌∙◌, rules}
use Rattle.std.proofs.lemmas.Iterator.{YieldsList-from_slice}
use Rattle.std.proofs.lemmas.Iterator.Search.{position_from_yields_List}
use Rattle.std.specs.List.{position}
use Rattle.std.specs.Option.{option_map}
use Rattle.trace.proofs.TextSteps.{rest_is, first_found}
use Rattle.trace.proofs.text.first_line.Goals as goal

pub returns-in_err-skipped : goal.returns-in_err-skipped
returns-in_err-skipped c =
    let xs = c.args.text.now in
    let p = λ (b : ℕ). not (b == 10) in
    let e = position_from_yields_List p _ _ c.position.result c.position.ensures.ran (YieldsList-from_slice c.in_ok-rest.rest.now cc) (λ x b q k. search rules) in
    let r = rest_is xs c.in_ok-rest.rest.now c.args.at c.in_ok-rest.ensures.lookup.0.2 in
    c.from_residual-in_err-skipped.ensures ∙ ap (option_map (λ n. c.args.at + n)) (sym c.in_err-skipped.was) ∙ first_found c.args.at (drop c.args.at xs) c.position.result (e ∙ ap (position p) r)

pub returns : goal.returns
returns c =
    let xs = c.args.text.now in
    let p = λ (b : ℕ). not (b == 10) in
    let e = position_from_yields_List p _ _ c.position.result c.position.ensures.ran (YieldsList-from_slice c.in_ok-rest.rest.now cc) (λ x b q k. search rules) in
    let r = rest_is xs c.in_ok-rest.rest.now c.args.at c.in_ok-rest.ensures.lookup.0.2 in
    ap (option_map (λ n. c.args.at + n)) (sym c.in_ok-skipped.was) ∙ first_found c.args.at (drop c.args.at xs) c.position.result (e ∙ ap (position p) r)
