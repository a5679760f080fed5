-- `table::place` meets its contract. The loop's invariant: the place is what was passed and the place in what is left. Assumes nothing.
use native.Mathlib.Omega.{arith}
use borrow.Author.Tests.{lt-ltb, le-ltb}
use Rattle.sorted.proofs.Laws.{place-at, place-past}
use Rattle.table.specs.Entries.{id_of, blank}
use Rattle.table.proofs.place.Goals as goal

pub returns-then-id-e-clause-is : goal.returns-then-id-e-clause-is
returns-then-id-e-clause-is c =
    let a = c.args in
    omega (arith, c.loop-i.invariant, rw (le-ltb _ _ c.if-id-e.true) at (place-at id_of blank a.id.0 a.entries.now c.loop-i.i c.loop-i-test.true))

pub loop-i-preserved : goal.loop-i-preserved
loop-i-preserved c =
    let a = c.args in
    omega (arith, c.loop-i.invariant, rw (lt-ltb _ _ c.if-id-e.false) at (place-at id_of blank a.id.0 a.entries.now c.loop-i.i c.loop-i-test.true))

pub returns-clause-is : goal.returns-clause-is
returns-clause-is c =
    let a = c.args in
    omega (arith, c.loop-i.invariant, place-past id_of blank a.id.0 a.entries.now c.loop-i.i c.loop-i-test.false)
