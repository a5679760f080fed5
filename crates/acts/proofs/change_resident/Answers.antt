-- `acts::change_resident` meets its contract: page 0 is seated, or nothing is asked. Assumes nothing.
use Rattle.acts.specs.Made.{resident_after}
use Rattle.acts.proofs.change_resident.Goals as goal

pub returns-then-meta : goal.returns-then-meta
unfolding resident_after
returns-then-meta c = rw c.if-meta.true c.seat.ensures

pub returns-else-meta : goal.returns-else-meta
unfolding resident_after
returns-else-meta c = rw c.if-meta.false
