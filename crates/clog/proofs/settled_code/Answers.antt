-- `clog::settled_code` meets its contract: the test on 1 is the definition's. Assumes nothing.
use native.Mathlib.Omega.{arith}
use borrow.Author.Tests.{eq-eqb, ne_eqb}
use Rattle.clog.specs.Slots.{settled_code}
use Rattle.clog.proofs.settled_code.Goals as goal

pub returns-then-c-eq1 : goal.returns-then-c-eq1
unfolding settled_code
returns-then-c-eq1 c = (rw (eq-eqb _ 1 c.if-c-eq1.true), omega arith)

pub returns-else-c-eq1 : goal.returns-else-c-eq1
unfolding settled_code
returns-else-c-eq1 c = (rw (ne_eqb _ 1 c.if-c-eq1.false), omega arith)
