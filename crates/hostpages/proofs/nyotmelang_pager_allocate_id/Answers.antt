-- `hostpages::nyotmelang_pager_allocate_id` meets its contract: the head is read, the call made, and what comes of it handed to the host. Assumes nothing.
use Rattle.std.proofs.Common.{refl, sym, ap, ◌∙◌}
use Rattle.lent.specs.Lent.{lent}
use Rattle.still.specs.Still.{id_allocated}
use Rattle.words.specs.Words.{words_of}
use Rattle.hostpages.specs.Hosted.{id_told}
use Rattle.hostpages.proofs.Laws.{stood-beside}
use Rattle.hostpages.proofs.nyotmelang_pager_allocate_id.Goals as goal

pub returns-in-Ok : goal.returns-in-Ok
returns-in-Ok c =
    let a = c.args in
    stood-beside id_told
    (λ h. id_allocated 4096 (lent h a.rows.now a.resident.now a.touched.now) a.log.now a.db.now a.clog.now a.frames.now)
    c.head_in-h.result c.in-Ok.x.1 _ _ _ _ _ _ _ _ _ _ _ _ _ c.head_in-h.ensures c.answer.ensures.number c.answer.ensures.words refl c.in-Ok.ensures

pub returns-in-Err : goal.returns-in-Err
returns-in-Err c =
    let a = c.args in
    stood-beside id_told
    (λ h. id_allocated 4096 (lent h a.rows.now a.resident.now a.touched.now) a.log.now a.db.now a.clog.now a.frames.now)
    c.head_in-h.result c.head_in-h.result _ _ _ _ _ _ _ _ _ _ _ _ _ c.head_in-h.ensures c.answer-in-Err.ensures.number (c.answer-in-Err.ensures.words ∙ ap words_of (sym c.head_in-h.ensures)) refl c.in-Err.ensures
