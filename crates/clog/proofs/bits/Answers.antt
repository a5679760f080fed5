-- `clog::bits` meets its contract: each slot has its own literals, at which the power of 4 computes. Assumes nothing.
use mathlib.Core.Path.{◌≡◌}
use native.Mathlib.Omega.{arith}
use Rattle.clog.specs.Slots.{bits_of}
use Rattle.clog.proofs.bits.Goals as goal

pub returns-in-0 : goal.returns-in-0
unfolding bits_of
returns-in-0 c = rw c.in-0.is (omega arith)

pub returns-in-1 : goal.returns-in-1
unfolding bits_of
returns-in-1 c = rw c.in-1.is

pub returns-in-2 : goal.returns-in-2
unfolding bits_of
returns-in-2 c = rw c.in-2.is

pub returns-in_default : goal.returns-in_default
unfolding bits_of
returns-in_default c = let e : c.args.m ≡ 3 = omega arith in rw e
