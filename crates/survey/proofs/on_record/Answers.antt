-- `survey::on_record` meets its contract, arm by arm. Assumes nothing.
use mathlib.Core.Path.{◌∙◌}
use Rattle.survey.proofs.on_record.Goals as goal

pub returns-in-Image : goal.returns-in-Image
returns-in-Image c = c.on_image.ensures ∙ rw c.in-Image.is

pub returns-in-Begin : goal.returns-in-Begin
returns-in-Begin c = c.on_status.ensures ∙ rw c.in-Begin.is

pub returns-in-Commit : goal.returns-in-Commit
returns-in-Commit c = c.on_status-in-Commit.ensures ∙ rw c.in-Commit.is

pub returns-in-Abort : goal.returns-in-Abort
returns-in-Abort c = c.on_status-in-Abort.ensures ∙ rw c.in-Abort.is

pub returns-in-Checkpoint : goal.returns-in-Checkpoint
returns-in-Checkpoint c = rw c.in-Checkpoint.is
