-- `leaves::nyotmelang_log_read` meets its contract: what was read is told. Assumes nothing.
use mathlib.Core.Path.{ap, ◌∙◌}
use Rattle.leaves.specs.Leaves.{said_by}
use Rattle.leaves.proofs.nyotmelang_log_read.Goals as goal

pub returns : goal.returns
returns c = c.tell_read.ensures ∙ ap said_by c.read_record-found.ensures
