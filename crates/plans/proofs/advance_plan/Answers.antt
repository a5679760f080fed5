-- `plans::advance_plan` meets its contract. Assumes nothing.
use mathlib.Core.Path.{◌∙◌}
use Rattle.plans.proofs.advance_plan.Goals as goal

pub returns : goal.returns
returns c = c.bare.ensures ∙ rw (c.no_time.ensures, c.no_id.ensures)
