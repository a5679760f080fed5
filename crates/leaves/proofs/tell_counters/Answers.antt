-- `leaves::tell_counters` meets its contract: the counters with a 1 behind them, or none. Assumes nothing.
use Rattle.words.specs.Values.{four}
use Rattle.leaves.specs.Leaves.{meta_said}
use Rattle.leaves.proofs.tell_counters.Goals as goal

pub returns-in-Some : goal.returns-in-Some
unfolding meta_said four
returns-in-Some c = rw c.in-Some.is c.put.ensures

pub returns-in-None : goal.returns-in-None
unfolding meta_said four
returns-in-None c = rw c.in-None.is c.put-in-None.ensures
