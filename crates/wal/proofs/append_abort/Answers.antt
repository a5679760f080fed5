-- `wal::append_abort` meets its contract: a tag and an id. Assumes nothing.
use Rattle.wal.specs.Records.{encode}
use Rattle.wal.specs.Writing.{appended}
use Rattle.wal.proofs.append_abort.Goals as goal

pub returns : goal.returns
unfolding appended encode
returns c = c.append_id.ensures
