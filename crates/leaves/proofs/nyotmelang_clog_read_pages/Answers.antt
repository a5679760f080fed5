-- `leaves::nyotmelang_clog_read_pages` meets its contract: the call is made, and its answer told. Assumes nothing.
use Rattle.leaves.proofs.Laws.{answer-left}
use Rattle.leaves.proofs.nyotmelang_clog_read_pages.Goals as goal

pub returns : goal.returns
returns c =
    let k = c.read_pages in
    answer-left _ k.result _ _ _ k.ensures c.tell.ensures
