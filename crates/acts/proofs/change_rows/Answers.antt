-- `acts::change_rows` meets its contract, whichever the change. Assumes nothing.
use native.Mathlib.Omega.{arith}
use Rattle.acts.specs.Made.{rows_after}
use Rattle.acts.proofs.change_rows.Goals as goal

pub returns-in-Set : goal.returns-in-Set
unfolding rows_after
returns-in-Set c = rw c.in-Set.is c.with_status.ensures

pub returns-in-Same : goal.returns-in-Same
unfolding rows_after
returns-in-Same c = grind (arith, c.in-Same.is)
