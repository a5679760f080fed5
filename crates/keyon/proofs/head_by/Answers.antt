-- `keyon::head_by` meets its contract, arm by arm. Assumes nothing.
use mathlib.Core.Path.{◌∙◌}
use Rattle.keyon.proofs.head_by.Goals as goal

pub returns-in-Some : goal.returns-in-Some
returns-in-Some c = c.head_at.ensures ∙ rw (c.in-Some.is, c.meta_counters.ensures)

pub returns-in-None : goal.returns-in-None
returns-in-None c = c.head_at-in-None.ensures ∙ rw (c.in-None.is, c.plain_counters.ensures)
