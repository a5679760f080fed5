-- `acts::plain_call` meets its contract. Assumes nothing.
use Rattle.acts.specs.Made.{plain_made}
use Rattle.acts.proofs.plain_call.Goals as goal

pub returns : goal.returns
unfolding plain_made
returns c = rw c.none.ensures
