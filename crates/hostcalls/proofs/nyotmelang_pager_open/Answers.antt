-- `hostcalls::nyotmelang_pager_open` meets its contract: the head is read, the call made, and what comes of it handed to the host. Assumes nothing.
use Rattle.lent.specs.Lent.{lent}
use Rattle.keyon.specs.Keyon.{opened_lent}
use Rattle.hostcalls.proofs.Laws.{stood-open}
use Rattle.hostcalls.proofs.nyotmelang_pager_open.Goals as goal

pub returns : goal.returns
returns c =
    let a = c.args in
    stood-open c.head_in-h.result _ _ _ _ _ _ _ _ _ _ c.head_in-h.ensures
    (λ h. opened_lent 4096 (record { log = a.log_len; db = a.db_len; clog = a.clog_len }) (lent h a.rows.now a.resident.now a.touched.now) a.log.now a.db.now a.clog.now a.frames.now)
    c.open-r.result _ c.answer_open.ensures.number c.answer_open.ensures.told c.answer_open.ensures.words c.open-r.ensures
