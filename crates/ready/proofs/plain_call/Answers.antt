-- `ready::plain_call` meets its contract. Assumes nothing.
use Rattle.ready.specs.Ready.{plain}
use Rattle.ready.proofs.plain_call.Goals as goal

pub returns : goal.returns
unfolding plain
returns c = rw c.none.ensures
