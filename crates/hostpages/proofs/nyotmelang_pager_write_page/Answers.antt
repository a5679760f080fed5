-- `hostpages::nyotmelang_pager_write_page` meets its contract: the head is read, the call made, and what comes of it handed to the host. Assumes nothing.
use Rattle.world.specs.Calls.{Write}
use Rattle.lent.specs.Lent.{lent, called_lent}
use Rattle.words.proofs.Laws.{answered}
use Rattle.hostpages.proofs.nyotmelang_pager_write_page.Goals as goal

pub returns : goal.returns
returns c =
    let a = c.args in
    answered
    (λ h. called_lent 4096 (Write a.page a.bytes.now) (lent h a.rows.now a.resident.now a.touched.now) a.log.now a.db.now a.clog.now a.frames.now)
    c.head_in-h.result c.write_page-r.result _ _ _ _ _ _ _ _ _ _ c.head_in-h.ensures c.answer.ensures.number c.answer.ensures.words c.write_page-r.ensures
