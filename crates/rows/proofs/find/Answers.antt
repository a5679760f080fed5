-- `rows::find` meets its contract. The loop's invariant: a look-up in what is left of the rows gives what a look-up in all of them gives. Assumes nothing.
use mathlib.Core.Path.{sym, ap, ◌∙◌}
use Rattle.sorted.proofs.Laws.{look-found, look-next, look-past}
use Rattle.std.specs.Prelude.{Some}
use Rattle.rows.specs.Rows.{row_id}
use Rattle.rows.proofs.Laws.{no_row, found, found-is}
use Rattle.rows.proofs.find.Goals as goal

pub returns-then-row-id : goal.returns-then-row-id
returns-then-row-id c =
    let l = c.loop-row in
    let h = look-found row_id no_row _ _ l.row-index c.loop-row-test.true c.if-row-id.true in
    rw (← c.held-row-items.ensures.list) (ap Some c.status_in.ensures ∙ sym (found-is c.args.id.0 _ ∙ ap found (l.invariant ∙ h)))

pub loop-row-preserved : goal.loop-row-preserved
loop-row-preserved c =
    let l = c.loop-row in
    l.invariant ∙ look-next row_id no_row _ _ l.row-index c.loop-row-test.true c.if-row-id.false

pub returns : goal.returns
returns c =
    let l = c.loop-row in
    rw (← c.held-row-items.ensures.list) (sym (found-is c.args.id.0 _ ∙ ap found (l.invariant ∙ look-past row_id no_row _ _ l.row-index c.loop-row-test.false)))
