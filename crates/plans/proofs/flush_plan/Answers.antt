-- `plans::flush_plan` meets its contract. Assumes nothing.
use Rattle.picks.specs.Picks.{picked_of}
use Rattle.plans.specs.Planned.{plan_of}
use Rattle.plans.proofs.flush_plan.Goals as goal

pub returns : goal.returns
unfolding plan_of picked_of
returns c = rw (c.bare-p.ensures, c.no_counters.ensures, c.no_time.ensures, c.no_id.ensures)
