-- `sweeps::past_free` meets its contract. The loop's invariant: where the bytes that are not 0 begin is the same from i on. The measure is how many bytes are left. Assumes nothing.
use mathlib.Core.Path.{sym, ◌∙◌}
use native.Mathlib.Omega.{arith}
use Rattle.sweeps.proofs.Zeros.{free-fits, busy-free}
use Rattle.sweeps.proofs.past_free.Goals as goal

pub loop-i-smaller : goal.loop-i-smaller
loop-i-smaller c = omega (arith, free-fits c.args.s.now c.loop-i.i (sym c.is_free.ensures ∙ c.loop-i-test.true))

pub loop-i-preserved : goal.loop-i-preserved
loop-i-preserved c =
    let l = c.loop-i in
    let s = c.args.s.now in
    let f = sym c.is_free.ensures ∙ c.loop-i-test.true in
    (omega arith, omega (arith, free-fits s l.i f), busy-free s l.i f ∙ l.invariant.2)
