-- `plans::commit_plan` meets its contract. Assumes nothing.
use Rattle.plans.specs.Planned.{plan_of}
use Rattle.plans.proofs.commit_plan.Goals as goal

pub returns : goal.returns
unfolding plan_of
returns c = rw (c.next_time-after.ensures, c.pick-p.ensures)
