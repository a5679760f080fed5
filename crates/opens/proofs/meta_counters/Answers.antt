-- `opens::meta_counters` meets its contract. Assumes nothing.
use Rattle.opens.specs.Inside.{meta_counters}
use Rattle.opens.proofs.meta_counters.Goals as goal

pub returns : goal.returns
unfolding meta_counters
returns c =
    rw (c.later_id-next.ensures, c.later_id-stored.ensures, c.next_id-above.ensures, c.largest_id.ensures)
    (rw (c.later_time-time.ensures, c.log_time.ensures))
