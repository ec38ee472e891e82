-- The bytes that are printed.
use Rattle.std.specs.Prelude.{ℕ, List, [], ◌∷◌, ◌++◌, codes, decimal}
use Rattle.report.specs.declared.page.Name.{Name}
use Rattle.report.specs.declared.page.Name.TheVariants.{Root, Function}
use Rattle.report.specs.declared.page.PageLine.{PageLine}
use Rattle.report.specs.declared.page.Footer.{Footer}
use Rattle.report.specs.declared.page.StopLine.{StopLine}

-- the name column
abbrev pub name_text : Name → List ℕ
name_text Root = codes "."
name_text (Function n) = codes "#" ++ decimal n

-- a line with the byte that ends it
abbrev pub ended : List ℕ → List ℕ
ended line = line ++ (10 ∷ [])

-- depth, name, own calls and work, inclusive calls and work, a space between
abbrev pub line_text : PageLine → List ℕ
line_text l =
    decimal l.depth ++ (codes " " ++ (name_text l.name ++ (codes " " ++ (decimal l.own_calls ++ (codes " " ++ (decimal l.own_work ++ (codes " " ++ (decimal l.calls ++ (codes " " ++ decimal l.work)))))))))

abbrev pub footer_text : Footer → List ℕ
footer_text f = codes "strays " ++ (decimal f.strays ++ (codes " open " ++ decimal f.open))

abbrev pub stop_text : StopLine → List ℕ
stop_text s = codes "stopped " ++ (decimal s.cause ++ (codes " " ++ (decimal s.place ++ (codes " " ++ decimal s.passed))))

-- the rows' lines, each with its end
abbrev pub lines_text : List PageLine → List ℕ
lines_text [] = []
lines_text (l ∷ ls) = ended (line_text l) ++ lines_text ls

-- the rows' lines, then the footer
abbrev pub page_bytes : List PageLine → Footer → List ℕ
page_bytes ls f = lines_text ls ++ ended (footer_text f)
