-- `calls::ready_begin` meets its contract: refused by 1 or 14, by 4 or 6, by 7, or made ready. Assumes nothing.
use mathlib.Core.Path.{refl, sym, ap}
use borrow.Author.Rules.{rules}
use Rattle.std.specs.Prelude.{Ok, Err}
use Rattle.fields.proofs.AnswerLaws.{handed-on}
use Rattle.sorted.proofs.Laws.{length-of-mapped}
use Rattle.table.specs.Entries.{inserted_of}
use Rattle.world.specs.Calls.{Begin}
use Rattle.ready.specs.Ready.{ready_of, accepted}
use Rattle.ready.proofs.Prepared.{no-zero, ready-front, plain-accepted}
use Rattle.calls.proofs.Begun.{begin-short, begin-7, begin-out}
use Rattle.calls.proofs.ready_begin.Goals as goal

pub returns-in_err-check_front : goal.returns-in_err-check_front
returns-in_err-check_front c =
    let a = c.args in
    let e = c.in_err-check_front in
    ready-front 4096 (Begin a.id) a.s a.log.now a.db.now a.clog.now a.frames.now _ _ (ap (ready_of a.s) (handed-on _ _ c.from_residual.ensures)) e.ensures (no-zero e.field-0.0)

pub returns-in_err-check_room : goal.returns-in_err-check_room
returns-in_err-check_room c =
    let a = c.args in
    let e = c.in_err-check_room in
    begin-short 4096 a.id a.s a.log.now a.db.now a.clog.now a.frames.now (sym c.in_ok-check_front.ensures) c.begin_plan-plan.result c.begin_plan-plan.ensures _ _
    (ap (ready_of a.s) (handed-on _ _ c.from_residual-in_err-check_room.ensures)) e.ensures (no-zero e.field-0.0)

pub returns-in_err-table : goal.returns-in_err-table
returns-in_err-table c =
    let a = c.args in
    let e = c.in_err-table in
    begin-7 4096 a.id a.s a.log.now a.db.now a.clog.now a.frames.now (sym c.in_ok-check_front.ensures) c.begin_plan-plan.result c.begin_plan-plan.ensures (record { entries = search (rules, length-of-mapped); pages = search rules; touched = search rules })
    c.in_ok-check_room.ensures (inserted_of a.s.table (Err e.field-0.0)) e.ensures _ (ap (ready_of a.s) (handed-on _ _ c.from_residual-in_err-table.ensures)) (no-zero e.field-0.0)

pub returns : goal.returns
returns c =
    let a = c.args in
    let t = c.in_ok-table in
    begin-out 4096 a.id a.s a.log.now a.db.now a.clog.now a.frames.now (sym c.in_ok-check_front.ensures) c.begin_plan-plan.result c.begin_plan-plan.ensures (record { entries = search (rules, length-of-mapped); pages = search rules; touched = search rules })
    c.in_ok-check_room.ensures (inserted_of a.s.table (Ok t.table)) t.ensures refl (accepted c.plain_call.result) c.with_begun.result c.with_begun.ensures (plain-accepted _ _ _ c.plain_call.ensures)
