-- `hostpages::nyotmelang_pager_entry` meets its contract: the head is read, the call made, and what comes of it handed to the host. Assumes nothing.
use Rattle.lent.specs.Lent.{lent}
use Rattle.still.specs.Entries.{entry_read}
use Rattle.hostpages.proofs.Laws.{entry_at}
use Rattle.hostpages.proofs.nyotmelang_pager_entry.Goals as goal

pub returns-in-Ok : goal.returns-in-Ok
returns-in-Ok c =
    let a = c.args in
    entry_at (λ h. entry_read 4096 a.i (lent h a.rows.now a.resident.now a.touched.now) a.log.now a.db.now a.clog.now a.frames.now) c.head_in-h.result _ _ _ c.head_in-h.ensures c.in-Ok.ensures c.values_of.ensures

pub returns-in-Err : goal.returns-in-Err
returns-in-Err c =
    let a = c.args in
    rw c.number.ensures (entry_at (λ h. entry_read 4096 a.i (lent h a.rows.now a.resident.now a.touched.now) a.log.now a.db.now a.clog.now a.frames.now) c.head_in-h.result _ _ _ c.head_in-h.ensures c.in-Err.ensures c.values_of-in-Err.ensures)
