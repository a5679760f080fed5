-- `table::largest` meets its contract. The loop's invariant: the larger of the number held and the largest of what is left is the largest of all.
-- Assumes nothing.
use Prim.Native.Nat.{max}
use mathlib.Core.Path.{◌≡◌}
use native.Mathlib.Omega.{arith}
use borrow.Author.Rules.{rules}
use Rattle.table.specs.Inside.{number_of}
use Rattle.table.proofs.Laws.{largest-at, largest-past}
use Rattle.table.proofs.largest.Goals as goal

pub loop-e-preserved : goal.loop-e-preserved
loop-e-preserved c =
    let l = c.loop-e in
    let m : c.max-m.result ≡ max l.m c.number_of.result = search rules in
    omega (arith, m, l.invariant, c.number_of.ensures, largest-at (number_of c.args.times) c.held-e-items.result.now l.e-index c.loop-e-test.true)

pub returns : goal.returns
returns c =
    let l = c.loop-e in
    rw (← c.held-e-items.ensures.list) (omega (arith, l.invariant, largest-past (number_of c.args.times) c.held-e-items.result.now l.e-index c.loop-e-test.false))
