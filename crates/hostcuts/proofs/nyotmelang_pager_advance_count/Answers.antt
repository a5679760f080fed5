-- `hostcuts::nyotmelang_pager_advance_count` meets its contract: the head is read, the call made, and what comes of it handed to the host. Assumes nothing.
use Rattle.world.specs.Calls.{Advance}
use Rattle.lent.specs.Lent.{lent}
use Rattle.acts.specs.Partly.{counted_lent}
use Rattle.ready.specs.Ready.{counted}
use Rattle.hostcuts.proofs.Laws.{count-given}
use Rattle.hostcuts.proofs.nyotmelang_pager_advance_count.Goals as goal

pub returns : goal.returns
returns c =
    let a = c.args in
    count-given
    (λ h. counted_lent 4096 (Advance (record { 0 = a.mark })) (lent h a.rows.now a.resident.now a.touched.now) a.log.now a.db.now a.clog.now a.frames.now)
    c.head_in-h.result _ (counted c.advance_count-r.result) _ _ c.head_in-h.ensures c.advance_count-r.ensures c.give_count.ensures
