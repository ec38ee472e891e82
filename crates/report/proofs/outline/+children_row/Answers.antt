use Rattle.std.proofs.Common.{◌-◌, length, take, drop, vec_items, sym, ap, ◌∙◌, subst, arith}
use Rattle.report.specs.Order.{entry_at}
use Rattle.report.specs.Outline.{RowsDrawn, led_by}
use Rattle.report.specs.Node.{node_at}
use Rattle.report.specs.Size.{sizes_of}
use Rattle.rows.specs.ShapeColumn.{parent_at}
use Rattle.report.proofs.Drawn.{row_drawn, rows_more, rows_none, led_step, led_end, led_none}
use Rattle.report.proofs.Walk.{node_read, rest_read, row_sizes}
use Rattle.report.proofs.outline.+children_row.Goals as goal

pub children-loop-entry-init : goal.children-loop-entry-init
children-loop-entry-init t c =
    let s = c.args.shape.now in
    let p = c.args.parent in
    let rest = rest_read s c.args.tree.now c.requires.tree p c.from.result c.index.result.now c.from-2.result c.deref.result.now c.requires.parent c.from.ensures c.index.ensures c.from-2.ensures c.deref.ensures.value in
    let sizes = row_sizes s c.args.tree.now c.requires.shape c.requires.tree p c.requires.parent in
    record {
      long = omega (arith, sizes, ap (λ es. sizes_of s (led_by s p es)) rest);
      completes = λ end new d. subst (λ es. RowsDrawn s (led_by s p es) c.args.at end c.args.column.now new) rest d;
    }

pub children-loop-entry-preserved : goal.children-loop-entry-preserved
children-loop-entry-preserved t c =
    let s = c.args.shape.now in
    let es = drop c.from-2.result c.deref.result.now in
    let entries = take (length c.deref.result.now - c.from-2.result) es in
    let k = c.loop-entry.entry-index in
    let leads = led_step s entries c.args.parent k c.loop-entry-test.true (ap (parent_at s) (sym c.from-in-loop-entry.ensures) ∙ c.if-shape-from.false) in
    record {
      long = omega (arith, c.row-end.ensures.end, c.loop-entry.invariant.long, ap (sizes_of s) leads);
      completes = λ e new d. c.loop-entry.invariant.completes e new (rows_more s _ _ (entry_at entries k).row c.loop-entry.end c.row-end.result e c.loop-entry.column c.row-end.new.column new leads c.row-end.ensures.drawn d);
    }

pub children-returns-after-loop-entry-clause-drawn : goal.children-returns-after-loop-entry-clause-drawn
children-returns-after-loop-entry-clause-drawn t c =
    let s = c.args.shape.now in
    let entries = take (length c.deref.result.now - c.from-2.result) (drop c.from-2.result c.deref.result.now) in
    c.loop-entry.invariant.completes c.loop-entry.end c.loop-entry.column
    (rows_none s _ c.loop-entry.end c.loop-entry.column (led_none s entries c.args.parent c.loop-entry.entry-index c.loop-entry-test.false))

pub children-returns-then-shape-from-clause-drawn : goal.children-returns-then-shape-from-clause-drawn
children-returns-then-shape-from-clause-drawn t c =
    let s = c.args.shape.now in
    let entries = take (length c.deref.result.now - c.from-2.result) (drop c.from-2.result c.deref.result.now) in
    c.loop-entry.invariant.completes c.loop-entry.end c.loop-entry.column
    (rows_none s _ c.loop-entry.end c.loop-entry.column (led_end s entries c.args.parent c.loop-entry.entry-index c.loop-entry-test.true (λ e. c.if-shape-from.true (ap (parent_at s) c.from-in-loop-entry.ensures ∙ e))))

pub row-bounds-column-at : goal.row-bounds-column-at
row-bounds-column-at t c = omega (arith, c.requires.room, c.requires.column, row_sizes c.args.shape.now c.args.tree.now c.requires.shape c.requires.tree c.args.this c.requires.this)

pub row-returns-clause-drawn : goal.row-returns-clause-drawn
row-returns-clause-drawn t c =
    let s = c.args.shape.now in
    let this = c.args.this in
    let nodes = vec_items c.args.tree.now.nodes in
    let node = node_read s c.args.tree.now c.requires.tree this c.from.result c.index.result.now c.requires.this c.from.ensures c.index.ensures in
    let depth = ap (λ x. x.depth) node ∙ c.requires.tree.depths this c.requires.this in
    row_drawn s (vec_items c.args.tree.now.order) c.requires.shape c.requires.tree.order this c.args.at c.children.result (node_at nodes this).start c.index.result.now.depth c.args.column.now c.children.new.column (c.requires.tree.starts this c.requires.this) depth c.children.ensures.drawn
