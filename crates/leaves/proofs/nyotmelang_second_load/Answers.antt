-- `leaves::nyotmelang_second_load` meets its contract: what the load gives is handed to the host. Assumes nothing.
use Rattle.std.proofs.Common.{ap, ◌∙◌}
use Rattle.leaves.specs.Leaves.{handed_by}
use Rattle.leaves.proofs.nyotmelang_second_load.Goals as goal

pub returns : goal.returns
returns c = c.hand_load.ensures _ ∙ ap (handed_by c.args.rows.now) c.load.ensures
