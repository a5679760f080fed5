-- `acts::change_touched` meets its contract, whichever the change. Assumes nothing.
use native.Mathlib.Omega.{arith}
use Rattle.acts.specs.Made.{touched_after}
use Rattle.acts.proofs.change_touched.Goals as goal

pub returns-in-Touch : goal.returns-in-Touch
unfolding touched_after
returns-in-Touch c = rw c.in-Touch.is c.mark.ensures

pub returns-in-Same : goal.returns-in-Same
unfolding touched_after
returns-in-Same c = grind (arith, c.in-Same.is)
