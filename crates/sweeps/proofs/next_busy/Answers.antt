-- `sweeps::next_busy` meets its contract. The loop's invariant: where the bytes that are not 0 begin is the same from i on. Assumes nothing.
use mathlib.Core.Path.{◌≡◌, ◌∙◌}
use native.Mathlib.Omega.{arith}
use lib.ListN.{length}
use Rattle.sweeps.proofs.Zeros.{busy-stop, busy-on, busy-end}
use Rattle.sweeps.proofs.next_busy.Goals as goal

pub loop-i-init : goal.loop-i-init
loop-i-init c = c.past_free-i.ensures.2

pub returns-then-s-i-ne0 : goal.returns-then-s-i-ne0
returns-then-s-i-ne0 c = let l = c.loop-i in busy-stop c.args.s.now l.i (omega arith) c.if-s-i-ne0.true ∙ l.invariant

pub loop-i-preserved : goal.loop-i-preserved
loop-i-preserved c = let l = c.loop-i in busy-on c.args.s.now l.i (omega arith) (omega arith) ∙ l.invariant

pub returns : goal.returns
returns c =
    let l = c.loop-i in
    let s = c.args.s.now in
    let e : length s ≡ l.i = omega arith in
    e ∙ busy-end s l.i (omega arith) ∙ l.invariant
