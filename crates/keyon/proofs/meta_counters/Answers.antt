-- `keyon::meta_counters` meets its contract. Assumes nothing.
use Rattle.table.specs.Entries.{empty_table}
use Rattle.table.proofs.Facts.{list-laid}
use Rattle.opens.specs.Inside.{meta_counters}
use Rattle.keyon.specs.Inside.{entries_of}
use Rattle.keyon.proofs.meta_counters.Goals as goal

pub returns : goal.returns
unfolding meta_counters
returns c =
    let a = c.args in
    rw (list-laid (empty_table 256) (entries_of a.k a.full.now), c.later_id-next.ensures, c.later_id-stored.ensures, c.next_id-above.ensures, c.largest_id-largest.ensures)
    (rw (c.later_time-time.ensures, c.log_time-found.ensures))
