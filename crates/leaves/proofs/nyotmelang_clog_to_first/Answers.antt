-- `leaves::nyotmelang_clog_to_first` meets its contract: the call is made, and its answer told. Assumes nothing.
use Rattle.leaves.proofs.Laws.{answer-left}
use Rattle.leaves.proofs.nyotmelang_clog_to_first.Goals as goal

pub returns : goal.returns
returns c =
    let k = c.to_first in
    answer-left _ k.result _ _ _ k.ensures c.tell.ensures
