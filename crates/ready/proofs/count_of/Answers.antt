-- `ready::count_of` meets its contract. Assumes nothing.
use Rattle.ready.specs.Ready.{counted_of}
use Rattle.ready.proofs.count_of.Goals as goal

pub returns : goal.returns
unfolding counted_of
returns c = rw c.count-value.ensures
