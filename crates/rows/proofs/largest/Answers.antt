-- `rows::largest` meets its contract. The loop's invariant: the larger of the number held and the largest of what is left is the largest of all. Assumes nothing.
use Prim.Native.Nat.{max}
use mathlib.Core.Path.{◌≡◌}
use native.Mathlib.Omega.{arith}
use borrow.Author.Rules.{rules}
use Rattle.table.specs.Inside.{number_of}
use Rattle.rows.proofs.Several.{largest-on, largest-end}
use Rattle.rows.proofs.largest.Goals as goal

pub loop-row-preserved : goal.loop-row-preserved
loop-row-preserved c =
    let l = c.loop-row in
    let m : c.max-m.result ≡ max l.m c.number_in.result = search rules in
    omega (arith, m, l.invariant, c.number_in.ensures, largest-on (number_of c.args.times) c.held-row-items.result.now l.row-index c.loop-row-test.true)

pub returns : goal.returns
returns c =
    let l = c.loop-row in
    rw (← c.held-row-items.ensures.list) (omega (arith, l.invariant, largest-end (number_of c.args.times) c.held-row-items.result.now l.row-index c.loop-row-test.false))
