-- `seats::place` meets its contract. The loop's invariant: the place is what was passed and the place in what is left. Assumes nothing.
use native.Mathlib.Omega.{arith}
use borrow.Author.Tests.{lt-ltb, le-ltb}
use Rattle.sorted.proofs.Laws.{place-at, place-past}
use Rattle.frames.specs.Pages.{number}
use Rattle.seats.proofs.place.Goals as goal

pub returns-then-page-x-clause-is : goal.returns-then-page-x-clause-is
returns-then-page-x-clause-is c =
    let a = c.args in
    omega (arith, c.loop-i.invariant, rw (le-ltb _ _ c.if-page-x.true) at (place-at number 0 a.page a.touched.now c.loop-i.i c.loop-i-test.true))

pub loop-i-preserved : goal.loop-i-preserved
loop-i-preserved c =
    let a = c.args in
    omega (arith, c.loop-i.invariant, rw (lt-ltb _ _ c.if-page-x.false) at (place-at number 0 a.page a.touched.now c.loop-i.i c.loop-i-test.true))

pub returns-clause-is : goal.returns-clause-is
returns-clause-is c =
    let a = c.args in
    omega (arith, c.loop-i.invariant, place-past number 0 a.page a.touched.now c.loop-i.i c.loop-i-test.false)
