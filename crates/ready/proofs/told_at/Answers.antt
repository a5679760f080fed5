-- `ready::told_at` meets its contract. Assumes nothing.
use Rattle.ready.specs.Ready.{told_as, told_of}
use Rattle.ready.proofs.told_at.Goals as goal

pub returns : goal.returns
unfolding told_as told_of
returns c = rw c.tell-value.ensures
