-- `leaves::no_status` meets its contract: the test of the clog's length decides. Assumes nothing.
use Rattle.leaves.proofs.no_status.Goals as goal

pub returns-then-bad_length : goal.returns-then-bad_length
returns-then-bad_length c = rw (← c.bad_length.ensures, c.if-bad_length.true)

pub returns-else-bad_length : goal.returns-else-bad_length
returns-else-bad_length c = rw (← c.bad_length.ensures, c.if-bad_length.false)
