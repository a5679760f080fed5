-- `clog::with_bits` meets its contract: each slot has its own literals, at which the powers of 4 compute. Assumes nothing.
use mathlib.Core.Path.{◌≡◌}
use native.Mathlib.Omega.{arith}
use Rattle.clog.specs.Slots.{with_bits}
use Rattle.clog.proofs.with_bits.Goals as goal

pub returns-in-0 : goal.returns-in-0
unfolding with_bits
returns-in-0 c = rw c.in-0.is (omega arith)

pub returns-in-1 : goal.returns-in-1
unfolding with_bits
returns-in-1 c = rw c.in-1.is

pub returns-in-2 : goal.returns-in-2
unfolding with_bits
returns-in-2 c = rw c.in-2.is

pub returns-in_default : goal.returns-in_default
unfolding with_bits
returns-in_default c = let e : c.args.m ≡ 3 = omega arith in rw e (omega arith)
