-- `keyon::plain_counters` meets its contract. Assumes nothing.
use Rattle.opens.specs.Inside.{plain_counters}
use Rattle.keyon.proofs.plain_counters.Goals as goal

pub returns : goal.returns
unfolding plain_counters
returns c = rw c.log_time.ensures
