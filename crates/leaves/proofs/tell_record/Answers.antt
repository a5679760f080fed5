-- `leaves::tell_record` meets its contract, by cases. Assumes nothing.
use Rattle.words.specs.Values.{four}
use Rattle.leaves.specs.Leaves.{said_by}
use Rattle.leaves.proofs.tell_record.Goals as goal

pub returns-in-Image : goal.returns-in-Image
unfolding said_by four
returns-in-Image c = rw c.in-Image.is c.put.ensures

pub returns-in-Begin : goal.returns-in-Begin
unfolding said_by four
returns-in-Begin c = rw c.in-Begin.is c.put-in-Begin.ensures

pub returns-in-Commit : goal.returns-in-Commit
unfolding said_by four
returns-in-Commit c = rw c.in-Commit.is c.put-in-Commit.ensures

pub returns-in-Abort : goal.returns-in-Abort
unfolding said_by four
returns-in-Abort c = rw c.in-Abort.is c.put-in-Abort.ensures

pub returns-in-Checkpoint : goal.returns-in-Checkpoint
unfolding said_by four
returns-in-Checkpoint c = rw c.in-Checkpoint.is c.put-in-Checkpoint.ensures
