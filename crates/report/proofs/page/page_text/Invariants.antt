use Rattle.std.proofs.Common.{◌≡◌, ◌++◌, drop, string_bytes}
use Rattle.report.specs.Text.{lines_text}
use Rattle.report.proofs.page.page_text.Given as goal

abbrev pub invariant-loop-line : goal.invariant-loop-line
invariant-loop-line l = string_bytes l.page ++ lines_text (drop l.line-index l.lines) ≡ lines_text l.lines
