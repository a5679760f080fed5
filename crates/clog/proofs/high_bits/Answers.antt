-- `clog::high_bits` meets its contract: each number of slots has its own literals; from four on nothing is left of a byte. Assumes nothing.
use mathlib.Core.Path.{◌≡◌}
use Prim.Native.Nat.{min}
use native.Mathlib.Omega.{arith}
use Rattle.clog.specs.Slots.{high_bits}
use Rattle.clog.proofs.high_bits.Goals as goal

pub returns-in-0 : goal.returns-in-0
unfolding high_bits
returns-in-0 c = rw c.in-0.is (omega arith)

pub returns-in-1 : goal.returns-in-1
unfolding high_bits
returns-in-1 c = rw c.in-1.is

pub returns-in-2 : goal.returns-in-2
unfolding high_bits
returns-in-2 c = rw c.in-2.is

pub returns-in-3 : goal.returns-in-3
unfolding high_bits
returns-in-3 c = rw c.in-3.is

pub returns-in_default : goal.returns-in_default
unfolding high_bits
returns-in_default c = let e : min 4 c.args.w ≡ 4 = omega arith in rw e (omega arith)
