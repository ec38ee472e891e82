use Rattle.std.proofs.Common.{refl, sym, ap, ◌∙◌, subst}
use Rattle.std.proofs.lemmas.Result.{err_from_is_err_and}
use Rattle.profile.specs.View.{fresh}
use Rattle.printing.specs.Prints.{cost, Halts}
use Rattle.printing.proofs.Printing.{told, halted, went_on, too_long_came, below_limit, came}
use Rattle.printing.proofs.print_trace.Goals as goal

pub returns-then-text-gt-MOST_BYTES : goal.returns-then-text-gt-MOST_BYTES
returns-then-text-gt-MOST_BYTES c = told c.args.text.now c.stopped.result _ (too_long_came c.args.text.now c.if-text-gt-MOST_BYTES.true) c.stopped.ensures

pub read_through-requires : goal.read_through-requires
read_through-requires c =
    below_limit c.args.text.now _ _ _ _ _ _ _ _ c.read_in-read.ensures.reads
    (c.new-summary.ensures ∙ ap (fresh cost) (c.as_mut_slice.ensures.len ∙ c.in_ok-table.ensures.len)) c.new-source.ensures.records c.new-source.ensures.ending c.if-text-gt-MOST_BYTES.false

pub returns-in_err-read_through : goal.returns-in_err-read_through
returns-in_err-read_through c =
    let text = c.args.text.now in
    let line = came text _ _ _ _ _ _ _ _ c.read_in-read.ensures.reads
    (c.new-summary.ensures ∙ ap (fresh cost) (c.as_mut_slice.ensures.len ∙ c.in_ok-table.ensures.len)) c.new-source.ensures.records c.new-source.ensures.ending c.if-text-gt-MOST_BYTES.false _ refl in
    let p = err_from_is_err_and c.from_residual-in_err-read_through.result c.from_residual-in_err-read_through.ensures.1 in
    rw p.1 (subst (Halts text) (sym p.2) (halted text _ c.in_err-read_through.field-0.0 line c.in_err-read_through.ensures))

pub returns : goal.returns
returns c =
    let text = c.args.text.now in
    let line = came text _ _ _ _ _ _ _ _ c.read_in-read.ensures.reads
    (c.new-summary.ensures ∙ ap (fresh cost) (c.as_mut_slice.ensures.len ∙ c.in_ok-table.ensures.len)) c.new-source.ensures.records c.new-source.ensures.ending c.if-text-gt-MOST_BYTES.false _ refl in
    went_on text _ c.in_ok-read_through.field-0 line c.in_ok-read_through.ensures
