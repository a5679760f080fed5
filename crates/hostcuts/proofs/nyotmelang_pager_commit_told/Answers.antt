-- `hostcuts::nyotmelang_pager_commit_told` meets its contract: the head is read, the call made, and what comes of it handed to the host. Assumes nothing.
use Rattle.world.specs.Calls.{Commit}
use Rattle.lent.specs.Lent.{lent}
use Rattle.acts.specs.Partly.{told_lent}
use Rattle.hostcuts.proofs.Laws.{told-given}
use Rattle.hostcuts.proofs.nyotmelang_pager_commit_told.Goals as goal

pub returns : goal.returns
returns c =
    let a = c.args in
    told-given
    (λ h. told_lent 4096 a.k Commit (lent h a.rows.now a.resident.now a.touched.now) a.log.now a.db.now a.clog.now a.frames.now)
    c.head_in-h.result _ c.commit_told-r.result _ _ c.head_in-h.ensures c.commit_told-r.ensures c.give_told.ensures
