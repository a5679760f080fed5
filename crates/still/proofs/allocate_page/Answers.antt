-- `still::allocate_page` meets its contract: refused by the first test or by 10, or the page count is handed out. Assumes nothing.
use mathlib.Core.Path.{refl}
use borrow.Author.Rules.{rules}
use Rattle.world.specs.Calls.{AllocPage}
use Rattle.lent.specs.Lent.{lent}
use Rattle.lent.proofs.Laws.{front-passed}
use Rattle.still.specs.Still.{page_allocated}
use Rattle.still.proofs.Refused.{handed-first}
use Rattle.still.proofs.Transactions.{page-10, page-left}
use Rattle.still.proofs.allocate_page.Goals as goal

pub returns-in_err-check_front : goal.returns-in_err-check_front
unfolding page_allocated
returns-in_err-check_front c =
    let a = c.args in
    handed-first 4096 (lent a.h a.rows.now a.resident.now a.touched.now) a.log.now a.db.now a.clog.now a.frames.now c.in_err-check_front.field-0.0 c.in_err-check_front.ensures AllocPage a.h.pages 0 _ c.from_residual.ensures

pub returns-then-h-ge4294967295 : goal.returns-then-h-ge4294967295
returns-then-h-ge4294967295 c =
    let a = c.args in
    let p = front-passed 4096 (lent a.h a.rows.now a.resident.now a.touched.now) a.log.now a.db.now a.clog.now a.frames.now 0 c.in_ok-check_front.ensures refl in
    page-10 4096 (lent a.h a.rows.now a.resident.now a.touched.now) a.log.now a.db.now a.clog.now a.frames.now (record { rows = search rules; resident = search rules; touched = search rules }) p.0 p.1 c.if-h-ge4294967295.true

pub returns : goal.returns
returns c =
    let a = c.args in
    let p = front-passed 4096 (lent a.h a.rows.now a.resident.now a.touched.now) a.log.now a.db.now a.clog.now a.frames.now 0 c.in_ok-check_front.ensures refl in
    page-left 4096 (lent a.h a.rows.now a.resident.now a.touched.now) a.log.now a.db.now a.clog.now a.frames.now (record { rows = search rules; resident = search rules; touched = search rules }) p.0 p.1 c.if-h-ge4294967295.false
