-- `begins::ready_flush` meets its contract: refused by 1 or 14, by 10, by 11 or marked, nothing to do, refused by 4 or 5, or made ready. Assumes nothing.
use mathlib.Core.Path.{refl}
use borrow.Author.Rules.{rules}
use Rattle.world.specs.Calls.{Flush}
use Rattle.lent.specs.Lent.{lent}
use Rattle.lent.proofs.Laws.{front-passed}
use Rattle.ready.proofs.Prepared.{no-zero}
use Rattle.acts.proofs.Laws.{handed-made, made-front, bare-accepted, plain-accepted}
use Rattle.begins.proofs.Flushed.{flush-10-made, flush-in-made, flush-absent-made, flush-short-made, flush-made}
use Rattle.begins.proofs.ready_flush.Goals as goal

pub returns-in_err-check_front : goal.returns-in_err-check_front
returns-in_err-check_front c =
    let a = c.args in
    made-front 4096 (Flush a.page) (lent a.h a.rows.now a.resident.now a.touched.now) a.log.now a.db.now a.clog.now a.frames.now _ _ (handed-made a.h _ _ c.from_residual.ensures) c.in_err-check_front.ensures (no-zero _)

pub returns-then-page-ge-NO_PAGE : goal.returns-then-page-ge-NO_PAGE
returns-then-page-ge-NO_PAGE c =
    let a = c.args in
    let p = front-passed 4096 (lent a.h a.rows.now a.resident.now a.touched.now) a.log.now a.db.now a.clog.now a.frames.now 0 c.in_ok-check_front.ensures refl in
    flush-10-made 4096 (lent a.h a.rows.now a.resident.now a.touched.now) (record { rows = search rules; resident = search rules; touched = search rules }) a.page a.log.now a.db.now a.clog.now a.frames.now p.0 p.1 _ refl c.if-page-ge-NO_PAGE.true

pub returns-then-h-eq1 : goal.returns-then-h-eq1
returns-then-h-eq1 c =
    let a = c.args in
    let p = front-passed 4096 (lent a.h a.rows.now a.resident.now a.touched.now) a.log.now a.db.now a.clog.now a.frames.now 0 c.in_ok-check_front.ensures refl in
    flush-in-made 4096 (lent a.h a.rows.now a.resident.now a.touched.now) (record { rows = search rules; resident = search rules; touched = search rules }) a.page a.log.now a.db.now a.clog.now a.frames.now p.0 p.1 _ c.if-page-ge-NO_PAGE.false c.if-h-eq1.true c.marked.ensures

pub returns-in_default : goal.returns-in_default
returns-in_default c =
    let a = c.args in
    let p = front-passed 4096 (lent a.h a.rows.now a.resident.now a.touched.now) a.log.now a.db.now a.clog.now a.frames.now 0 c.in_ok-check_front.ensures refl in
    flush-absent-made 4096 (lent a.h a.rows.now a.resident.now a.touched.now) (record { rows = search rules; resident = search rules; touched = search rules }) a.page a.log.now a.db.now a.clog.now a.frames.now p.0 p.1 _ c.if-page-ge-NO_PAGE.false c.if-h-eq1.false c.find.result c.find.ensures
    (bare-accepted _ _ _ c.bare.ensures) c.in_default.is

pub returns-in_err-check_room : goal.returns-in_err-check_room
returns-in_err-check_room c =
    let a = c.args in
    let p = front-passed 4096 (lent a.h a.rows.now a.resident.now a.touched.now) a.log.now a.db.now a.clog.now a.frames.now 0 c.in_ok-check_front.ensures refl in
    flush-short-made 4096 (lent a.h a.rows.now a.resident.now a.touched.now) (record { rows = search rules; resident = search rules; touched = search rules }) a.page a.log.now a.db.now a.clog.now a.frames.now p.0 p.1 _ c.if-page-ge-NO_PAGE.false c.if-h-eq1.false c.find.result c.find.ensures
    c.in-Some.slot c.in-Some.is c.flush_plan-plan.result c.flush_plan-plan.ensures _ c.in_err-check_room.ensures (handed-made a.h _ _ c.from_residual-in_err-check_room.ensures) (no-zero _)

pub returns : goal.returns
returns c =
    let a = c.args in
    let p = front-passed 4096 (lent a.h a.rows.now a.resident.now a.touched.now) a.log.now a.db.now a.clog.now a.frames.now 0 c.in_ok-check_front.ensures refl in
    flush-made 4096 (lent a.h a.rows.now a.resident.now a.touched.now) (record { rows = search rules; resident = search rules; touched = search rules }) a.page a.log.now a.db.now a.clog.now a.frames.now p.0 p.1 _ c.if-page-ge-NO_PAGE.false c.if-h-eq1.false c.find.result c.find.ensures
    c.in-Some.slot c.in-Some.is c.flush_plan-plan.result c.flush_plan-plan.ensures 0 c.in_ok-check_room.ensures (plain-accepted _ _ _ _ c.plain_call.ensures) refl
