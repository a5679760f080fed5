-- `leaves::tell_stored` meets its contract: what stands in page 0, or the refusal. Assumes nothing.
use Rattle.words.specs.Values.{four}
use Rattle.leaves.specs.Leaves.{meta_said}
use Rattle.leaves.proofs.tell_stored.Goals as goal

pub returns-in-Ok : goal.returns-in-Ok
returns-in-Ok c = rw c.in-Ok.is c.tell_counters.ensures

pub returns-in-Err : goal.returns-in-Err
unfolding meta_said four
returns-in-Err c = rw (c.in-Err.is, ← c.number.ensures) c.put.ensures
