-- `clog::one_if` meets its contract: the test on 0 is the definition's. Assumes nothing.
use native.Mathlib.Omega.{arith}
use borrow.Author.Tests.{eq-eqb, ne_eqb}
use Rattle.clog.proofs.one_if.Goals as goal

pub returns-then-c-eq0 : goal.returns-then-c-eq0
returns-then-c-eq0 c = (rw (eq-eqb _ 0 c.if-c-eq0.true), omega arith)

pub returns-else-c-eq0 : goal.returns-else-c-eq0
returns-else-c-eq0 c = (rw (ne_eqb _ 0 c.if-c-eq0.false), omega arith)
