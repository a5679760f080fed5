-- `hostpages::nyotmelang_pager_entry_count` meets its contract: the head is read, the call made, and what comes of it handed to the host. Assumes nothing.
use Rattle.lent.specs.Lent.{lent}
use Rattle.still.specs.Entries.{entries_counted}
use Rattle.hostpages.proofs.Laws.{counted-at}
use Rattle.hostpages.proofs.nyotmelang_pager_entry_count.Goals as goal

pub returns-in-Ok : goal.returns-in-Ok
returns-in-Ok c =
    let a = c.args in
    counted-at (λ h. entries_counted 4096 (lent h a.rows.now a.resident.now a.touched.now) a.log.now a.db.now a.clog.now a.frames.now) c.head_in-h.result _ _ c.head_in-h.ensures c.in-Ok.ensures

pub returns-in-Err : goal.returns-in-Err
returns-in-Err c =
    let a = c.args in
    rw c.number.ensures (counted-at (λ h. entries_counted 4096 (lent h a.rows.now a.resident.now a.touched.now) a.log.now a.db.now a.clog.now a.frames.now) c.head_in-h.result _ _ c.head_in-h.ensures c.in-Err.ensures)
