-- `keyon::lay_rows` meets its contract, arm by arm. Assumes nothing.
use mathlib.Core.Path.{◌∙◌}
use Rattle.keyon.proofs.lay_rows.Goals as goal

pub returns-in-Some : goal.returns-in-Some
returns-in-Some c = c.lay.ensures ∙ rw c.in-Some.is

pub returns-in-None : goal.returns-in-None
returns-in-None c = c.lay-in-None.ensures ∙ rw c.in-None.is
