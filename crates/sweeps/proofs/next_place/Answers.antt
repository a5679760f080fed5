-- `sweeps::next_place` meets its contract. Assumes nothing.
use borrow.Author.Tests.{eq-eqb, ne_eqb}
use Rattle.sweeps.specs.Inside.{next_from}
use Rattle.sweeps.proofs.next_place.Goals as goal

pub returns-then-number-ne-ACCEPTED : goal.returns-then-number-ne-ACCEPTED
unfolding next_from
returns-then-number-ne-ACCEPTED c = let a = c.args in rw (ne_eqb a.number 0 c.if-number-ne-ACCEPTED.true)

pub returns : goal.returns
unfolding next_from
returns c = let a = c.args in rw (eq-eqb a.number 0 c.if-number-ne-ACCEPTED.false) c.next_busy.ensures
