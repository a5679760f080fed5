-- `clog::stride` meets its contract: the test on 0 is the definition's. Assumes nothing.
use borrow.Author.Tests.{eq-eqb, ne_eqb}
use Rattle.clog.specs.Inside.{stride_of}
use Rattle.clog.proofs.stride.Goals as goal

pub returns-then-s-at-eq0 : goal.returns-then-s-at-eq0
unfolding stride_of
returns-then-s-at-eq0 c = rw (eq-eqb _ 0 c.if-s-at-eq0.true)

pub returns : goal.returns
unfolding stride_of
returns c = rw (ne_eqb _ 0 c.if-s-at-eq0.false)
