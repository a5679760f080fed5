-- `leaves::nyotmelang_clog_write_pages` meets its contract: the call is made, and its answer told. Assumes nothing.
use Rattle.leaves.proofs.Laws.{answer-left}
use Rattle.leaves.proofs.nyotmelang_clog_write_pages.Goals as goal

pub returns : goal.returns
returns c =
    let k = c.write_pages in
    answer-left _ k.result _ _ _ k.ensures c.tell.ensures
