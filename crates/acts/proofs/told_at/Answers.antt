-- `acts::told_at` meets its contract. Assumes nothing.
use Rattle.ready.specs.Ready.{told_as}
use Rattle.acts.specs.Made.{told_made}
use Rattle.acts.proofs.told_at.Goals as goal

pub returns : goal.returns
unfolding told_as told_made
returns c = rw c.tell-value.ensures
