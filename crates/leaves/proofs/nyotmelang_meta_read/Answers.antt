-- `leaves::nyotmelang_meta_read` meets its contract: what was read is told. Assumes nothing.
use mathlib.Core.Path.{ap, ◌∙◌}
use Rattle.leaves.specs.Leaves.{meta_said}
use Rattle.leaves.proofs.nyotmelang_meta_read.Goals as goal

pub returns : goal.returns
returns c = c.tell_stored.ensures ∙ ap meta_said c.read_meta-s.ensures
