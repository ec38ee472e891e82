-- Each line of an outline is of a row of the shape. Assumes nothing.
use Rattle.std.proofs.Common.{◌≡◌, ℕ, ◌<◌, List, [], ◌∷◌, ◌++◌, length, sym, ap, ◌∙◌, subst, append-nil, arith}
use Rattle.std.specs.List.{AllByRecursion}
use Rattle.std.proofs.ByRecursion.{All-append, All-weaker}
use Rattle.std.proofs.lemmas.List.{drop_all}
use Rattle.rows.specs.declared.shape.ShapeRow.{ShapeRow}
use Rattle.report.specs.declared.outline.Line.{Line}
use Rattle.report.specs.Outline.{line_of, IsChild, IsChildren, Outlines, none, more, Drawn}

module _ (s : List ShapeRow) where
  children_below : (cs : List ℕ) (r : ℕ) → IsChildren s r cs → AllByRecursion (λ i. i < length s) cs
  children_below cs r c = All-weaker (IsChild s r) (λ i. i < length s) (λ i h. h.1.0) cs c.each

  outlines_below : (rs : List ℕ) (lines : List Line) → AllByRecursion (λ i. i < length s) rs → Outlines s rs lines → AllByRecursion (λ l. l.row < length s) lines
  outlines_below [] lines h none = tt
  outlines_below (r ∷ rs) lines h (more _ _ cs below rest _ c o q e) =
      subst (λ ls. AllByRecursion (λ (l : Line). l.row < length s) ls) (sym e)
      (All-append (λ (l : Line). l.row < length s) (line_of s r ∷ below) rest (h.0, outlines_below cs below (children_below cs r c) o) (outlines_below rs rest h.1 q))

  pub drawn_below : (old new : List Line) → 0 < length s → length old ≡ length s → Drawn s old new → (length new ≡ length s) × AllByRecursion (λ l. l.row < length s) new
  drawn_below old new some long d =
      let e : new ≡ d.lines = d.is ∙ ap (λ x. d.lines ++ x) (drop_all (length s) old (omega arith)) ∙ append-nil d.lines in
      let o = d.outline in
      let h : AllByRecursion (λ (l : Line). l.row < length s) d.lines =
      subst (λ ls. AllByRecursion (λ (l : Line). l.row < length s) ls) (sym o.is) (some, outlines_below o.children o.below (children_below o.children 0 o.whole) o.outlines) in
      (ap length e ∙ d.long, subst (λ ls. AllByRecursion (λ (l : Line). l.row < length s) ls) (sym e) h)
