-- `quiet::seat_page` meets its contract: refused by 1 or 14, by 10, by 8, or the page is seated where it stands or next. Assumes nothing.
use borrow.Author.Rules.{rules}
use Rattle.fields.specs.declared.refusal.Refusal.TheVariants.{BadPage}
use Rattle.sorted.proofs.Laws.{length-of-mapped}
use Rattle.world.specs.Calls.{Read}
use Rattle.quiet.proofs.Refused.{by-front}
use Rattle.quiet.proofs.Pages.{seat-with, seat-on, seat-10, seat-8, seat-out}
use Rattle.quiet.proofs.seat_page.Goals as goal

pub returns-in_err-check_front : goal.returns-in_err-check_front
returns-in_err-check_front c =
    let a = c.args in
    let r = c.in_err-check_front.field-0.0 in
    seat-on 4096 a.page a.s a.log.now a.db.now a.clog.now a.frames.now _ r c.from_residual.ensures (by-front 4096 (Read a.page) a.s a.log.now a.db.now a.clog.now a.frames.now r c.in_err-check_front.ensures)

pub returns-then-page-ge-NO_PAGE : goal.returns-then-page-ge-NO_PAGE
returns-then-page-ge-NO_PAGE c =
    let a = c.args in
    seat-with 4096 a.page a.s a.log.now a.db.now a.clog.now a.frames.now BadPage (seat-10 4096 a.page a.s a.log.now a.db.now a.clog.now a.frames.now c.in_ok-check_front.ensures c.if-page-ge-NO_PAGE.true)

pub returns-in_err-seated : goal.returns-in_err-seated
returns-in_err-seated c =
    let a = c.args in
    let r = c.in_err-seated.field-0.0 in
    seat-on 4096 a.page a.s a.log.now a.db.now a.clog.now a.frames.now _ r c.from_residual-in_err-seated.ensures
    (seat-8 4096 a.page a.s a.log.now a.db.now a.clog.now a.frames.now c.in_ok-check_front.ensures c.if-page-ge-NO_PAGE.false (record { entries = search (rules, length-of-mapped); pages = search rules; touched = search rules }) r c.in_err-seated.ensures)

pub returns : goal.returns
returns c =
    let a = c.args in
    seat-out 4096 a.page a.s a.log.now a.db.now a.clog.now a.frames.now c.in_ok-check_front.ensures c.if-page-ge-NO_PAGE.false (record { entries = search (rules, length-of-mapped); pages = search rules; touched = search rules }) c.in_ok-seated.seated c.in_ok-seated.ensures
    c.max-pages.result c.max-pages.ensures c.find-place.result c.find-place.ensures c.is_some.result c.unwrap_or-slot.result c.is_some.ensures c.unwrap_or-slot.ensures
