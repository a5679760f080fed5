-- `leaves::nyotmelang_log_append_begin` meets its contract: the call is made, and its answer told. Assumes nothing.
use Rattle.leaves.proofs.Laws.{answer-left}
use Rattle.leaves.proofs.nyotmelang_log_append_begin.Goals as goal

pub returns : goal.returns
returns c =
    let k = c.append_begin in
    answer-left _ k.result _ _ _ k.ensures c.tell.ensures
