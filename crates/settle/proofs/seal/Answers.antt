-- `settle::seal` meets its contract: refused by 4, 5 or 6, by the table's number, by 8, or made ready. Assumes nothing.
use mathlib.Core.Path.{refl, ap}
use Rattle.std.specs.Prelude.{Ok, Err}
use Rattle.fields.specs.Refusals.{number_of}
use Rattle.fields.proofs.AnswerLaws.{handed-on}
use Rattle.table.specs.Entries.{inserted_of}
use Rattle.frames.specs.Pages.{seated_of}
use Rattle.ready.specs.Ready.{ready_of, accepted}
use Rattle.ready.proofs.Prepared.{no-zero, meta-accepted}
use Rattle.settle.specs.Inside.{with_table}
use Rattle.settle.proofs.Sealed.{seal-short, seal-table, seal-seat, seal-out}
use Rattle.settle.proofs.seal.Goals as goal

pub returns-in_err-check_room : goal.returns-in_err-check_room
returns-in_err-check_room c =
    let a = c.args in
    let e = c.in_err-check_room in
    let t = inserted_of a.s.table a.table in
    seal-short 4096 a.s (with_table a.u t.table) t.number a.plan a.back a.log.now a.db.now a.clog.now a.frames.now _ (number_of e.field-0.0) e.ensures
    (ap (ready_of a.s) (handed-on _ _ c.from_residual.ensures)) (no-zero e.field-0.0)

pub returns-in_err-table : goal.returns-in_err-table
returns-in_err-table c =
    let a = c.args in
    let e = c.in_err-table in
    let t = inserted_of a.s.table (Err e.field-0.0) in
    rw e.was
    (seal-table 4096 a.s (with_table a.u t.table) t.number a.plan a.back a.log.now a.db.now a.clog.now a.frames.now _ 0 c.in_ok-check_room.ensures refl
    (ap (ready_of a.s) (handed-on _ _ c.from_residual-in_err-table.ensures)) (no-zero e.field-0.0))

pub returns-in_err-more : goal.returns-in_err-more
returns-in_err-more c =
    let a = c.args in
    let e = c.in_err-more in
    let t = inserted_of a.s.table (Ok c.in_ok-table.table) in
    rw c.in_ok-table.was
    (seal-seat 4096 a.s (with_table a.u t.table) t.number a.plan a.back a.log.now a.db.now a.clog.now a.frames.now _ 0 c.in_ok-check_room.ensures refl refl
    (seated_of a.s.frames (Err e.field-0.0)) e.ensures (ap (ready_of a.s) (handed-on _ _ c.from_residual-in_err-more.ensures)) (no-zero e.field-0.0))

pub returns : goal.returns
returns c =
    let a = c.args in
    let t = inserted_of a.s.table (Ok c.in_ok-table.table) in
    rw c.in_ok-table.was
    (seal-out 4096 a.s (with_table a.u t.table) t.number a.plan a.back a.log.now a.db.now a.clog.now a.frames.now (accepted c.meta_call.result) 0 c.in_ok-check_room.ensures refl refl
    (seated_of a.s.frames (Ok c.in_ok-more.more)) c.in_ok-more.ensures c.slot_for-slot.result c.max.result refl c.slot_for-slot.ensures c.max.ensures (meta-accepted _ _ _ _ _ c.meta_call.ensures))
