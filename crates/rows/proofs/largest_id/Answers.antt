-- `rows::largest_id` meets its contract: the number is what `largest` ensures. Assumes nothing.
use Rattle.rows.proofs.largest_id.Goals as goal

pub returns : goal.returns
returns c = rw c.largest.ensures
