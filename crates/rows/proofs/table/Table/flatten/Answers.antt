use Rattle.std.proofs.Common.{◌≡◌, ◌+◌, ◌<◌, length, get_or, sym, refl, ap, ◌∙◌, subst, arith, length-set, get_or-set_same}
use Rattle.rows.specs.Shapes.{shapes}
use Rattle.rows.specs.Sound.{Table}
use Rattle.rows.specs.Cells.{values, marks}
use Rattle.rows.specs.Flats.{Flattening}
use Rattle.rows.proofs.Views.{as_long, long, long_values, long_marks}
use Rattle.rows.proofs.Sounds.{some}
use Rattle.rows.proofs.Flats.{flat_start, flat_ready, flat_step}
use Rattle.rows.proofs.table.Table.flatten.Goals as goal

pub loop-i-init : goal.loop-i-init
loop-i-init g c =
    let m = g.M.Metric in
    let a = c.args.self in
    let tree = c.note.new.self in
    let rows = tree.rows.now in
    let before = c.take_in.new.self.rows.now in
    let h : 0 < length (marks before) = omega (arith, long_marks before, c.take_in.ensures.count, c.take_in.new.self.fits) in
    let es : shapes rows ≡ shapes a.rows.now = c.note.ensures.same ∙ c.take_in.ensures.same ∙ c.new-tree.ensures.same in
    let t = subst (λ u. Table u a.count c.args.top) (sym es) c.requires in
    let one : tree.count ≡ 1 = omega (arith, c.note.ensures.count, c.take_in.ensures.count, c.new-tree.ensures.none) in (
      subst (λ n. Flattening m.measure (shapes rows) (shapes rows) (values m.means rows) (values m.means rows) (marks rows) n 1) (sym one)
          (flat_start g.met.M.Metric.lawful (shapes rows) (values m.means rows) a.count c.args.top t (marks rows)
          (ap (λ u. get_or u 0 0) c.note.ensures.noted ∙ get_or-set_same (marks before) 0 0 0 h)),
      refl,
      refl,
    )

pub flatten_row-requires : goal.flatten_row-requires
flatten_row-requires g c =
    let m = g.M.Metric in
    let a = c.args.self in
    let rows = c.note.new.self.rows.now in
    let now = c.loop-i.tree.rows.now in
    let es : shapes rows ≡ shapes a.rows.now = c.note.ensures.same ∙ c.take_in.ensures.same ∙ c.new-tree.ensures.same in
    let t = subst (λ u. Table u a.count c.args.top) (sym es) c.requires in
    record {
      inside = omega (arith, c.loop-i.invariant.1, as_long _ _ (ap length es), a.fits);
      ready = flat_ready g.met.M.Metric.lawful (shapes rows) (values m.means rows) a.count c.args.top t (shapes now) (values m.means now) (marks now) c.loop-i.tree.count c.loop-i.i (omega arith) c.loop-i.invariant.0;
    }

pub loop-i-preserved : goal.loop-i-preserved
loop-i-preserved g c =
    let m = g.M.Metric in
    let a = c.args.self in
    let rows = c.note.new.self.rows.now in
    let now = c.loop-i.tree.rows.now in
    let after = c.flatten_row.new.self.rows.now in
    let es : shapes rows ≡ shapes a.rows.now = c.note.ensures.same ∙ c.take_in.ensures.same ∙ c.new-tree.ensures.same in
    let t = subst (λ u. Table u a.count c.args.top) (sym es) c.requires in
    let inside : c.loop-i.i < length now = omega (arith, c.loop-i.invariant.1, as_long _ _ (ap length es), a.fits) in
    let im : c.loop-i.i < length (marks now) = omega (arith, long_marks now) in
    let iv : c.loop-i.i < length (values m.means now) = omega (arith, long_values m.means now, long now) in
    let x = c.flatten_row.ensures in
    let w = flat_step g.met.M.Metric.lawful (shapes rows) (values m.means rows) a.count c.args.top t (shapes now) (values m.means now) (marks now) c.loop-i.tree.count c.loop-i.i (omega arith) c.loop-i.invariant.0 (shapes after) (values m.means after) (marks after) c.flatten_row.result im iv x.seated in (
      subst (λ k. Flattening m.measure (shapes rows) (shapes after) (values m.means rows) (values m.means after) (marks after) k (c.loop-i.i + 1)) (sym x.count) w,
      omega (arith, ap length x.seated.noted, length-set (marks now) c.loop-i.i c.flatten_row.result, long_marks now, long_marks after, c.loop-i.invariant.1),
      x.same_reference ∙ c.loop-i.invariant.2,
    )

pub returns : goal.returns
returns g c =
    let m = g.M.Metric in
    let a = c.args.self in
    let first = c.note.new.self.rows.now in
    let rows = c.loop-i.tree.rows.now in
    let es : shapes first ≡ shapes a.rows.now = c.note.ensures.same ∙ c.take_in.ensures.same ∙ c.new-tree.ensures.same in
    let ev : values m.means first ≡ values m.means a.rows.now = c.note.ensures.held ∙ c.take_in.ensures.held ∙ c.new-tree.ensures.held in
    let e : c.loop-i.i ≡ a.count = omega (arith, some _ _ _ c.requires) in
    let w = subst (λ k. Flattening m.measure (shapes first) (shapes rows) (values m.means first) (values m.means rows) (marks rows) c.loop-i.tree.count k) e c.loop-i.invariant.0 in
    record {
      same_reference = c.loop-i.invariant.2 ∙ c.note.ensures.same_reference ∙ c.take_in.ensures.same_reference ∙ c.new-tree.ensures.same_reference;
      long = omega (arith, c.loop-i.invariant.1, as_long _ _ (ap length es));
      flat = subst (λ u. Flattening m.measure u (shapes rows) (values m.means a.rows.now) (values m.means rows) (marks rows) c.loop-i.tree.count a.count) es
          (subst (λ u. Flattening m.measure (shapes first) (shapes rows) u (values m.means rows) (marks rows) c.loop-i.tree.count a.count) ev w);
    }
