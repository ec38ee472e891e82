use Rattle.std.proofs.Common.{◌≡◌, ◌<◌, get_or, set, sym, ap, ◌∙◌, subst, ap₂, arith}
use Rattle.rows.specs.Shapes.{Shape, shapes, blank}
use Rattle.rows.specs.Cells.{values, marks}
use Rattle.rows.specs.Steps.{Reached}
use Rattle.rows.specs.Flats.{book_at, Seated}
use Rattle.rows.proofs.Views.{long_values}
use Rattle.rows.proofs.Flats.{seated_root, seated_child}
use Rattle.rows.proofs.table.Table.flatten_row.Goals as goal
use Rattle.rows.proofs.table.Table.flatten_row.Goals.{then-shape-eq0, else-shape-eq0}

pub returns-clause-seated : goal.returns-clause-seated
returns-clause-seated g c =
    let m = g.M.Metric in
    let none = m.measure.none in
    let rows = c.args.self.now.rows.now in
    let s = shapes rows in
    let v = values m.means rows in
    let n = c.args.self.now.count in
    let i = c.args.i in
    let q = c.look-shape.ensures in
    let qf = ap (λ (x : Shape). x.function) q in
    let e = c.take-value.ensures in
    let b = c.book.ensures in
    let w = c.note.ensures in
    let mid = c.if-shape-eq0.self in
    let to = c.if-shape-eq0.to in
    let v' = values m.means c.note.new.self.rows.now in
    let ms = marks c.note.new.self.rows.now in
    let es : shapes c.note.new.self.rows.now ≡ shapes mid.rows.now = w.same ∙ b.same in
    let ev : v' ≡ book_at m.measure (values m.means mid.rows.now) to (get_or v i none) = w.held ∙ b.held ∙ ap (book_at m.measure (values m.means mid.rows.now) to) e.value in
    let em : ms ≡ set (marks mid.rows.now) i to = w.noted ∙ ap (λ u. set u i to) b.noted in
    elim c.if-shape-eq0.branch [
      | then-shape-eq0 x ↦
          (let sm = ap (λ t. shapes t.rows.now) x.self-is ∙ e.same in
          let vm = ap (λ t. values m.means t.rows.now) x.self-is ∙ e.held in
          let mm = ap (λ t. marks t.rows.now) x.self-is ∙ e.noted in
          let z : (get_or s i blank).function ≡ 0 = omega (arith, qf, x.if-shape-eq0.true) in
          subst (λ u. Seated m.measure s u v v' (marks rows) ms n i to) (sym (es ∙ sm))
          (subst (λ r. Seated m.measure s s v v' (marks rows) ms n i r) (sym x.to-is)
          (seated_root g.met.M.Metric.lawful s v (marks rows) n i c.requires.ready v' ms z
          (ev ∙ ap₂ (λ u r. book_at m.measure u r (get_or v i none)) vm x.to-is) (em ∙ ap₂ (λ u r. set u i r) mm x.to-is))))
      | else-shape-eq0 x ↦
          (let p = x.place-to.ensures in
          let at = x.place-to.result in
          let s₂ = shapes x.place-to.new.self.rows.now in
          let v₂ = values m.means x.place-to.new.self.rows.now in
          let v₀ = values m.means c.take-value.new.self.rows.now in
          let f : 0 < (get_or s i blank).function = omega (arith, qf, x.if-shape-eq0.false) in
          let qp = x.from.ensures ∙ ap (λ (x : Shape). x.parent) q in
          let up : x.mark_of-up.result ≡ get_or (marks rows) (get_or s i blank).parent 0 = x.mark_of-up.ensures.is ∙ ap₂ (λ u k. get_or u k 0) e.noted qp in
          let r₀ = subst (λ n. Reached none (shapes c.take-value.new.self.rows.now) s₂ v₀ v₂ n x.mark_of-up.result c.look-shape.result.function at) e.count p.reached in
          let r₁ = subst (λ u. Reached none u s₂ v₀ v₂ n x.mark_of-up.result c.look-shape.result.function at) e.same r₀ in
          let r₂ = subst (λ u. Reached none s s₂ u v₂ n x.mark_of-up.result c.look-shape.result.function at) e.held r₁ in
          let r₃ = subst (λ u. Reached none s s₂ (set v i none) v₂ n u c.look-shape.result.function at) up r₂ in
          let r₄ = subst (λ u. Reached none s s₂ (set v i none) v₂ n (get_or (marks rows) (get_or s i blank).parent 0) u at) qf r₃ in
          let sm = ap (λ t. shapes t.rows.now) x.self-is in
          let vm = ap (λ t. values m.means t.rows.now) x.self-is in
          let mm = ap (λ t. marks t.rows.now) x.self-is ∙ p.noted ∙ e.noted in
          subst (λ u. Seated m.measure s u v v' (marks rows) ms n i to) (sym (es ∙ sm))
          (subst (λ r. Seated m.measure s s₂ v v' (marks rows) ms n i r) (sym x.to-is)
          (seated_child g.met.M.Metric.lawful s v (marks rows) n i c.requires.ready s₂ v₂ v' ms at f (long_values m.means rows) r₄
          (ev ∙ ap₂ (λ u r. book_at m.measure u r (get_or v i none)) vm x.to-is) (em ∙ ap₂ (λ u r. set u i r) mm x.to-is))))
    ]
