-- `rows::hold` meets its contract. Assumes nothing.
use borrow.Author.Tests.{eq-eqb, ne_eqb}
use Rattle.rows.specs.Rows.{held_row}
use Rattle.rows.proofs.hold.Goals as goal

pub returns-then-h-ne-ACCEPTED : goal.returns-then-h-ne-ACCEPTED
unfolding held_row
returns-then-h-ne-ACCEPTED c = let a = c.args in rw (ne_eqb a.h.number 0 c.if-h-ne-ACCEPTED.true)

pub returns-in-Ok : goal.returns-in-Ok
unfolding held_row
returns-in-Ok c = let a = c.args in rw (eq-eqb a.h.number 0 c.if-h-ne-ACCEPTED.false) (rw c.in-Ok.is at c.with_status.ensures)

pub returns-in-Err : goal.returns-in-Err
unfolding held_row
returns-in-Err c = let a = c.args in rw (eq-eqb a.h.number 0 c.if-h-ne-ACCEPTED.false, c.number.ensures) (rw c.in-Err.is at c.with_status.ensures)
