-- `leaves::tell` meets its contract: both answers in four values. Assumes nothing.
use Rattle.words.specs.Values.{four}
use Rattle.leaves.specs.Leaves.{said_by}
use Rattle.leaves.proofs.tell.Goals as goal

pub returns-in-Ok : goal.returns-in-Ok
unfolding said_by four
returns-in-Ok c = rw c.in-Ok.is c.put.ensures

pub returns-in-Err : goal.returns-in-Err
unfolding said_by four
returns-in-Err c = rw (c.in-Err.is, ← c.number.ensures) c.put-in-Err.ensures
