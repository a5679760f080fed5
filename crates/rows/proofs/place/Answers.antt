-- `rows::place` meets its contract. The loop's invariant: the place is what was passed and the place in what is left. Assumes nothing.
use native.Mathlib.Omega.{arith}
use borrow.Author.Tests.{lt-ltb, le-ltb}
use Rattle.sorted.proofs.Laws.{place-at, place-past}
use Rattle.rows.specs.Rows.{row_id}
use Rattle.rows.proofs.Laws.{no_row}
use Rattle.rows.proofs.place.Goals as goal

pub returns-then-id-row-clause-is : goal.returns-then-id-row-clause-is
returns-then-id-row-clause-is c =
    let a = c.args in
    omega (arith, c.loop-i.invariant, rw (le-ltb _ _ c.if-id-row.true) at (place-at row_id no_row a.id.0 a.rows.now c.loop-i.i c.loop-i-test.true))

pub loop-i-preserved : goal.loop-i-preserved
loop-i-preserved c =
    let a = c.args in
    omega (arith, c.loop-i.invariant, rw (lt-ltb _ _ c.if-id-row.false) at (place-at row_id no_row a.id.0 a.rows.now c.loop-i.i c.loop-i-test.true))

pub returns-clause-is : goal.returns-clause-is
returns-clause-is c =
    let a = c.args in
    omega (arith, c.loop-i.invariant, place-past row_id no_row a.id.0 a.rows.now c.loop-i.i c.loop-i-test.false)
