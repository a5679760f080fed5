-- `ready::nothing` meets its contract. Assumes nothing.
use Rattle.ready.specs.Ready.{idle}
use Rattle.ready.proofs.nothing.Goals as goal

pub returns : goal.returns
unfolding idle
returns c = rw (c.no_plan.ensures, c.none.ensures)
