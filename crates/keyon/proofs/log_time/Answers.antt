-- `keyon::log_time` meets its contract. Assumes nothing.
use Rattle.table.specs.Entries.{empty_table}
use Rattle.table.proofs.Facts.{list-laid}
use Rattle.keyon.proofs.log_time.Goals as goal

pub returns : goal.returns
returns c = rw (list-laid (empty_table 256), c.next_time.ensures, c.largest_time-largest.ensures)
