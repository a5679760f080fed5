-- `hostcuts::nyotmelang_pager_flush_to` meets its contract: the head is read, the call made, and what comes of it handed to the host. Assumes nothing.
use Rattle.world.specs.Calls.{Flush}
use Rattle.lent.specs.Lent.{lent}
use Rattle.acts.specs.Partly.{cut_lent}
use Rattle.stores.specs.Room.{cut}
use Rattle.hostcuts.proofs.Laws.{cut-given}
use Rattle.hostcuts.proofs.nyotmelang_pager_flush_to.Goals as goal

pub returns : goal.returns
returns c =
    let a = c.args in
    cut-given
    (λ h. cut_lent 4096 a.k (Flush a.page) (lent h a.rows.now a.resident.now a.touched.now) a.log.now a.db.now a.clog.now a.frames.now)
    c.head_in-h.result _ (cut c.head_in-h.result.lens c.flush_to-r.result) _ _ _ _ _ c.head_in-h.ensures c.flush_to-r.ensures c.give_cut.ensures
