-- `acts::count_of` meets its contract. Assumes nothing.
use Rattle.acts.specs.Made.{counted_made}
use Rattle.acts.proofs.count_of.Goals as goal

pub returns : goal.returns
unfolding counted_made
returns c = rw c.count-value.ensures
