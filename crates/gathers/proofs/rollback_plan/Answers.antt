-- `gathers::rollback_plan` meets its contract. Assumes nothing.
use Rattle.plans.specs.Planned.{plan_of}
use Rattle.gathers.proofs.rollback_plan.Goals as goal

pub returns : goal.returns
unfolding plan_of
returns c = rw (c.no_time-time.ensures, c.pick_in-p.ensures)
