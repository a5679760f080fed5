-- `still::seat_page` meets its contract: refused by the first test, by 10, by 8, or the page is seated where it stands or next. Assumes nothing.
use mathlib.Core.Path.{refl}
use Rattle.fields.specs.Refusals.{number_of}
use Rattle.fields.proofs.AnswerLaws.{handed-on}
use borrow.Author.Rules.{rules}
use Rattle.lent.specs.Lent.{lent}
use Rattle.lent.proofs.Laws.{front-passed}
use Rattle.still.proofs.Pages.{seat-first, seat-bad, seat-none, seat-done}
use Rattle.still.proofs.seat_page.Goals as goal

pub returns-in_err-check_front : goal.returns-in_err-check_front
returns-in_err-check_front c =
    let a = c.args in
    seat-first 4096 a.page (lent a.h a.rows.now a.resident.now a.touched.now) a.log.now a.db.now a.clog.now a.frames.now _ c.in_err-check_front.field-0.0 c.from_residual.ensures c.in_err-check_front.ensures

pub returns-then-page-ge-NO_PAGE : goal.returns-then-page-ge-NO_PAGE
returns-then-page-ge-NO_PAGE c =
    let a = c.args in
    let p = front-passed 4096 (lent a.h a.rows.now a.resident.now a.touched.now) a.log.now a.db.now a.clog.now a.frames.now 0 c.in_ok-check_front.ensures refl in
    seat-bad 4096 a.page (lent a.h a.rows.now a.resident.now a.touched.now) a.log.now a.db.now a.clog.now a.frames.now (record { rows = search rules; resident = search rules; touched = search rules }) p.0 p.1 c.if-page-ge-NO_PAGE.true

pub returns-in_err-count : goal.returns-in_err-count
returns-in_err-count c =
    let a = c.args in
    let p = front-passed 4096 (lent a.h a.rows.now a.resident.now a.touched.now) a.log.now a.db.now a.clog.now a.frames.now 0 c.in_ok-check_front.ensures refl in
    let r = c.in_err-count.field-0.0 in
    rw (handed-on _ _ c.from_residual-in_err-count.ensures)
    (seat-none 4096 a.page (lent a.h a.rows.now a.resident.now a.touched.now) a.log.now a.db.now a.clog.now a.frames.now (record { rows = search rules; resident = search rules; touched = search rules }) p.0 p.1 c.if-page-ge-NO_PAGE.false (record { number = number_of r; count = a.h.resident }) c.seat.new.resident c.in_err-count.ensures r refl)

pub returns : goal.returns
returns c =
    let a = c.args in
    let p = front-passed 4096 (lent a.h a.rows.now a.resident.now a.touched.now) a.log.now a.db.now a.clog.now a.frames.now 0 c.in_ok-check_front.ensures refl in
    let find = c.find-place in
    let raised = c.raised-pages in
    seat-done 4096 a.page (lent a.h a.rows.now a.resident.now a.touched.now) a.log.now a.db.now a.clog.now a.frames.now (record { rows = search rules; resident = search rules; touched = search rules }) p.0 p.1 c.if-page-ge-NO_PAGE.false _ c.seat.new.resident c.in_ok-count.ensures refl
    raised.result raised.ensures find.result find.ensures c.is_some.result c.unwrap_or-slot.result c.is_some.ensures c.unwrap_or-slot.ensures
