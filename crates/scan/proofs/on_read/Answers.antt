-- `scan::on_read` meets its contract, arm by arm. Assumes nothing.
use mathlib.Core.Path.{◌∙◌}
use Rattle.scan.proofs.on_read.Goals as goal

pub returns-in-Found : goal.returns-in-Found
returns-in-Found c = c.on_record.ensures ∙ rw c.in-Found.is

pub returns-in-Torn : goal.returns-in-Torn
returns-in-Torn c = rw c.in-Torn.is

pub returns-in-Unknown : goal.returns-in-Unknown
returns-in-Unknown c = rw c.in-Unknown.is
