-- `hostpages::nyotmelang_pager_read_page` meets its contract: the head is read, the call made, and what comes of it handed to the host. Assumes nothing.
use Rattle.std.proofs.Common.{refl, sym, ap, ◌∙◌}
use Rattle.lent.specs.Lent.{lent, replied}
use Rattle.still.specs.Still.{page_read}
use Rattle.words.specs.Words.{words_of}
use Rattle.hostpages.specs.Hosted.{itself}
use Rattle.hostpages.proofs.Laws.{stood-beside}
use Rattle.hostpages.proofs.nyotmelang_pager_read_page.Goals as goal

pub returns : goal.returns
returns c =
    let a = c.args in
    let r = c.read_page-r.result in
    let e = sym c.head_in-h.ensures in
    stood-beside itself
    (λ h. page_read 4096 a.page a.bytes.now (lent h a.rows.now a.resident.now a.touched.now) a.log.now a.db.now a.clog.now a.frames.now)
    c.head_in-h.result (replied c.head_in-h.result c.read_page-r.result).head _ _ _ _ _ _ _ _ _ _ _ _ _ c.head_in-h.ensures
    (c.answer.ensures.number ∙ ap (λ h. (replied h c.read_page-r.result).number) e) (c.answer.ensures.words ∙ ap (λ h. words_of (replied h c.read_page-r.result).head) e) refl c.read_page-r.ensures
