use Rattle.std.proofs.Common.{◌∙◌, rules}
use Rattle.std.specs.Char.{is_ascii_digit}
use Rattle.std.proofs.lemmas.Iterator.{YieldsList-from_slice}
use Rattle.std.proofs.lemmas.Iterator.Search.{all_from_yields_List}
use Rattle.trace.proofs.WordSteps.{digits_all}
use Rattle.trace.proofs.token.has_digits_only.Goals as goal

pub returns : goal.returns
returns c = all_from_yields_List (λ b. is_ascii_digit b) _ _ c.all.result c.all.ensures.ran (YieldsList-from_slice c.args.word.now cc) (λ x b q k. search rules) ∙ digits_all c.args.word.now
