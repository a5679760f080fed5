-- `rows::overlay` meets its contract. The loop's invariant: setting what is left of the entries in the rows as they are gives what setting all of them gives.
-- Assumes nothing.
use mathlib.Core.Path.{sym, ap, ◌∙◌}
use Rattle.rows.specs.Rows.{rowed, held_row}
use Rattle.rows.proofs.Several.{all-on, all_end}
use Rattle.rows.proofs.overlay.Goals as goal

pub loop-row-preserved : goal.loop-row-preserved
loop-row-preserved c =
    let l = c.loop-row in
    let h = c.hold-c.ensures ∙ ap (held_row 256 (rowed l.c l.rows)) c.entry_of-e.ensures in
    all-on 256 (rowed l.c l.rows) _ _ l.row-index c.loop-row-test.true h ∙ l.invariant

pub returns : goal.returns
returns c =
    let l = c.loop-row in
    rw (← c.held-row-items.ensures.list) (sym (all_end 256 (rowed l.c l.rows) _ l.row-index c.loop-row-test.false) ∙ l.invariant)
