-- `plans::begin_plan` meets its contract. Assumes nothing.
use mathlib.Core.Path.{◌∙◌}
use Rattle.plans.proofs.begin_plan.Goals as goal

pub returns : goal.returns
returns c = c.bare.ensures ∙ rw (c.no_counters.ensures, c.no_time.ensures)
