-- `hostcalls::nyotmelang_pager_rollback` meets its contract: the head is read, the call made, and what comes of it handed to the host. Assumes nothing.
use Rattle.world.specs.Calls.{Rollback}
use Rattle.lent.specs.Lent.{lent, called_lent}
use Rattle.words.proofs.Laws.{answered}
use Rattle.hostcalls.proofs.nyotmelang_pager_rollback.Goals as goal

pub returns : goal.returns
returns c =
    let a = c.args in
    answered
    (λ h. called_lent 4096 (Rollback a.list.now) (lent h a.rows.now a.resident.now a.touched.now) a.log.now a.db.now a.clog.now a.frames.now)
    c.head_in-h.result c.rollback-r.result _ _ _ _ _ _ _ _ _ _ c.head_in-h.ensures c.answer.ensures.number c.answer.ensures.words c.rollback-r.ensures
