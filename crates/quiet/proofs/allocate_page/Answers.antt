-- `quiet::allocate_page` meets its contract: refused by 1 or 14, by 10, or the page count is given and goes up by one. Assumes nothing.
use mathlib.Core.Path.{sym}
use borrow.Author.Rules.{rules}
use Rattle.fields.specs.declared.refusal.Refusal.TheVariants.{BadPage}
use Rattle.sorted.proofs.Laws.{length-of-mapped}
use Rattle.world.specs.Calls.{AllocPage}
use Rattle.quiet.specs.Handed.{page_allocated}
use Rattle.quiet.proofs.Refused.{by-front, by-call, handed-with, handed-out}
use Rattle.quiet.proofs.Transactions.{page-10, page-out}
use Rattle.quiet.proofs.allocate_page.Goals as goal

pub returns-in_err-check_front : goal.returns-in_err-check_front
unfolding page_allocated
returns-in_err-check_front c =
    let a = c.args in
    let r = c.in_err-check_front.field-0.0 in
    handed-out 4096 AllocPage a.s a.log.now a.db.now a.clog.now a.frames.now a.s.pages 0 _ r c.from_residual.ensures (by-front 4096 AllocPage a.s a.log.now a.db.now a.clog.now a.frames.now r c.in_err-check_front.ensures)

pub returns-then-s-ge-NO_PAGE : goal.returns-then-s-ge-NO_PAGE
unfolding page_allocated
returns-then-s-ge-NO_PAGE c =
    let a = c.args in
    let e0 = c.in_ok-check_front.ensures in
    handed-with 4096 AllocPage a.s a.log.now a.db.now a.clog.now a.frames.now a.s.pages 0 BadPage (by-call 4096 AllocPage a.s a.log.now a.db.now a.clog.now a.frames.now 10 e0 (page-10 4096 a.s a.log.now a.db.now a.clog.now a.frames.now (sym e0) c.if-s-ge-NO_PAGE.true))

pub returns : goal.returns
returns c = let a = c.args in page-out 4096 a.s a.log.now a.db.now a.clog.now a.frames.now (sym c.in_ok-check_front.ensures) (record { entries = search (rules, length-of-mapped); pages = search rules; touched = search rules }) c.if-s-ge-NO_PAGE.false
