-- `opens::store_by` meets its contract, arm by arm. Assumes nothing.
use mathlib.Core.Path.{◌∙◌}
use Rattle.opens.proofs.store_by.Goals as goal

pub returns-in-Some : goal.returns-in-Some
returns-in-Some c = c.store_at_rest.ensures ∙ rw (c.in-Some.is, c.meta_counters.ensures)

pub returns-in-None : goal.returns-in-None
returns-in-None c = c.store_at_rest-in-None.ensures ∙ rw (c.in-None.is, c.plain_counters.ensures)
