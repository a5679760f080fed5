-- `calls::ready_flush` meets its contract: refused by 1 or 14, by 10, by 11 or marked, nothing to do, refused by 4 or 5, or made ready. Assumes nothing.
use mathlib.Core.Path.{refl, sym, ap, ◌∙◌}
use borrow.Author.Rules.{rules}
use Rattle.fields.specs.Refusals.{number_of}
use Rattle.fields.proofs.AnswerLaws.{handed-on}
use Rattle.sorted.proofs.Laws.{length-of-mapped}
use Rattle.world.specs.Calls.{Flush}
use Rattle.ready.specs.Ready.{ready_of, accepted}
use Rattle.ready.proofs.Prepared.{no-zero, ready-front, nothing-accepted, plain-accepted}
use Rattle.calls.proofs.Flushed.{flush-10, flush-in, flush-absent, flush-short, flush-out}
use Rattle.calls.proofs.ready_flush.Goals as goal

pub returns-in_err-check_front : goal.returns-in_err-check_front
returns-in_err-check_front c =
    let a = c.args in
    let e = c.in_err-check_front in
    ready-front 4096 (Flush a.page) a.s a.log.now a.db.now a.clog.now a.frames.now _ _ (ap (ready_of a.s) (handed-on _ _ c.from_residual.ensures)) e.ensures (no-zero e.field-0.0)

pub returns-then-page-ge-NO_PAGE : goal.returns-then-page-ge-NO_PAGE
returns-then-page-ge-NO_PAGE c =
    let a = c.args in
    flush-10 4096 a.page a.s a.log.now a.db.now a.clog.now a.frames.now (sym c.in_ok-check_front.ensures) _ refl c.if-page-ge-NO_PAGE.true

pub returns-then-is_installed : goal.returns-then-is_installed
returns-then-is_installed c =
    let a = c.args in
    flush-in 4096 a.page a.s a.log.now a.db.now a.clog.now a.frames.now (sym c.in_ok-check_front.ensures) c.if-page-ge-NO_PAGE.false (record { entries = search (rules, length-of-mapped); pages = search rules; touched = search rules }) (sym c.is_installed.ensures ∙ c.if-is_installed.true)
    _ c.marked.ensures

pub returns-in_default : goal.returns-in_default
returns-in_default c =
    let a = c.args in
    flush-absent 4096 a.page a.s a.log.now a.db.now a.clog.now a.frames.now (sym c.in_ok-check_front.ensures) c.if-page-ge-NO_PAGE.false (record { entries = search (rules, length-of-mapped); pages = search rules; touched = search rules }) (sym c.is_installed.ensures ∙ c.if-is_installed.false) c.find.result c.find.ensures
    (accepted c.nothing.result) (nothing-accepted _ _ c.nothing.ensures) c.in_default.is

pub returns-in_err-check_room : goal.returns-in_err-check_room
returns-in_err-check_room c =
    let a = c.args in
    let e = c.in_err-check_room in
    flush-short 4096 a.page a.s a.log.now a.db.now a.clog.now a.frames.now (sym c.in_ok-check_front.ensures) c.if-page-ge-NO_PAGE.false (record { entries = search (rules, length-of-mapped); pages = search rules; touched = search rules }) (sym c.is_installed.ensures ∙ c.if-is_installed.false) c.find.result c.find.ensures
    c.in-Some.at c.in-Some.is c.flush_plan-plan.result c.flush_plan-plan.ensures (number_of e.field-0.0) e.ensures
    _ (ap (ready_of a.s) (handed-on _ _ c.from_residual-in_err-check_room.ensures)) (no-zero e.field-0.0)

pub returns : goal.returns
returns c =
    let a = c.args in
    flush-out 4096 a.page a.s a.log.now a.db.now a.clog.now a.frames.now (sym c.in_ok-check_front.ensures) c.if-page-ge-NO_PAGE.false (record { entries = search (rules, length-of-mapped); pages = search rules; touched = search rules }) (sym c.is_installed.ensures ∙ c.if-is_installed.false) c.find.result c.find.ensures
    c.in-Some.at c.in-Some.is c.flush_plan-plan.result c.flush_plan-plan.ensures 0 c.in_ok-check_room.ensures
    (accepted c.plain_call.result) (plain-accepted _ _ _ c.plain_call.ensures) refl
