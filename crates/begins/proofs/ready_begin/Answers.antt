-- `begins::ready_begin` meets its contract: refused by 1 or 14, by 4 or 6, by 7, or made ready. Assumes nothing.
use mathlib.Core.Path.{refl}
use borrow.Author.Rules.{rules}
use Rattle.world.specs.Calls.{Begin}
use Rattle.lent.specs.Lent.{lent}
use Rattle.lent.proofs.Laws.{front-passed}
use Rattle.ready.proofs.Prepared.{no-zero}
use Rattle.acts.proofs.Laws.{handed-made, made-front, plain-accepted}
use Rattle.begins.proofs.Begun.{begin-short-made, begin-7-made, begin-made}
use Rattle.begins.proofs.ready_begin.Goals as goal

pub returns-in_err-check_front : goal.returns-in_err-check_front
returns-in_err-check_front c =
    let a = c.args in
    made-front 4096 (Begin a.id) (lent a.h a.rows.now a.resident.now a.touched.now) a.log.now a.db.now a.clog.now a.frames.now _ _ (handed-made a.h _ _ c.from_residual.ensures) c.in_err-check_front.ensures (no-zero _)

pub returns-in_err-check_room : goal.returns-in_err-check_room
returns-in_err-check_room c =
    let a = c.args in
    let p = front-passed 4096 (lent a.h a.rows.now a.resident.now a.touched.now) a.log.now a.db.now a.clog.now a.frames.now 0 c.in_ok-check_front.ensures refl in
    begin-short-made 4096 (lent a.h a.rows.now a.resident.now a.touched.now) (record { rows = search rules; resident = search rules; touched = search rules }) a.id a.log.now a.db.now a.clog.now a.frames.now p.0 p.1 c.begin_plan-plan.result c.begin_plan-plan.ensures
    _ _ (handed-made a.h _ _ c.from_residual-in_err-check_room.ensures) c.in_err-check_room.ensures (no-zero _)

pub returns-in_err-check_table : goal.returns-in_err-check_table
returns-in_err-check_table c =
    let a = c.args in
    let p = front-passed 4096 (lent a.h a.rows.now a.resident.now a.touched.now) a.log.now a.db.now a.clog.now a.frames.now 0 c.in_ok-check_front.ensures refl in
    begin-7-made 4096 (lent a.h a.rows.now a.resident.now a.touched.now) (record { rows = search rules; resident = search rules; touched = search rules }) a.id a.log.now a.db.now a.clog.now a.frames.now p.0 p.1 c.begin_plan-plan.result c.begin_plan-plan.ensures
    _ c.in_ok-check_room.ensures _ c.in_err-check_table.ensures (handed-made a.h _ _ c.from_residual-in_err-check_table.ensures) (no-zero _)

pub returns : goal.returns
returns c =
    let a = c.args in
    let p = front-passed 4096 (lent a.h a.rows.now a.resident.now a.touched.now) a.log.now a.db.now a.clog.now a.frames.now 0 c.in_ok-check_front.ensures refl in
    begin-made 4096 (lent a.h a.rows.now a.resident.now a.touched.now) (record { rows = search rules; resident = search rules; touched = search rules }) a.id a.log.now a.db.now a.clog.now a.frames.now p.0 p.1 c.begin_plan-plan.result c.begin_plan-plan.ensures
    _ c.in_ok-check_room.ensures _ c.in_ok-check_table.ensures c.with_begun-after.result c.with_begun-after.ensures (plain-accepted _ _ _ _ c.plain_call.ensures) refl
