-- `opens::log_time` meets its contract. Assumes nothing.
use mathlib.Core.Path.{◌∙◌}
use Rattle.opens.proofs.log_time.Goals as goal

pub returns : goal.returns
returns c = c.next_time.ensures ∙ rw c.largest_time.ensures
