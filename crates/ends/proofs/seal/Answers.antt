-- `ends::seal` meets its contract: refused by 4, 5 or 6, by the table, by 8, or made ready. Assumes nothing.
use Prim.Native.Nat.{ℕ}
use mathlib.Core.Path.{refl, sym, ap, ◌∙◌}
use Rattle.std.specs.Prelude.{Result}
use Rattle.fields.specs.declared.refusal.Refusal.{Refusal}
use Rattle.fields.specs.Refusals.{number_of, number_in}
use Rattle.ready.proofs.Prepared.{no-zero}
use Rattle.acts.specs.declared.Change.TheVariants.{Same}
use Rattle.acts.specs.Made.{bare_made, accepted}
use Rattle.acts.proofs.Laws.{handed-made, meta-accepted}
use Rattle.ends.specs.Inside.{ending_of}
use Rattle.ends.proofs.Sealed.{seal-short, seal-table, seal-seat, seal-out}
use Rattle.ends.proofs.seal.Goals as goal

pub returns-in_err-check_room : goal.returns-in_err-check_room
returns-in_err-check_room c =
    let a = c.args in
    seal-short 4096 a.h a.resident.now (ending_of a.x) a.log.now a.db.now a.clog.now a.frames.now
    _ _ c.in_err-check_room.ensures (handed-made a.h _ _ c.from_residual.ensures) (no-zero _)

pub returns-in_err-x : goal.returns-in_err-x
returns-in_err-x c =
    let a = c.args in
    let k = c.in_err-x in
    let e = ap (λ (r : Result Unit Refusal). number_in r) k.was in
    seal-table 4096 a.h a.resident.now (ending_of a.x) a.log.now a.db.now a.clog.now a.frames.now
    _ 0 c.in_ok-check_room.ensures refl (handed-made a.h _ _ c.from_residual-in_err-x.ensures ∙ ap (λ (n : ℕ). bare_made n Same a.h) (sym e)) (λ z. no-zero k.field-0.0 (sym e ∙ z))

pub returns-in_err-check_seat : goal.returns-in_err-check_seat
returns-in_err-check_seat c =
    let a = c.args in
    let e = ap (λ (r : Result Unit Refusal). number_in r) c.in_ok-x.was in
    let r = c.in_err-check_seat.field-0.0 in
    seal-seat 4096 a.h a.resident.now (ending_of a.x) a.log.now a.db.now a.clog.now a.frames.now
    _ 0 c.in_ok-check_room.ensures refl e (record { number = number_of r; count = a.h.resident }) c.in_err-check_seat.ensures
    r (handed-made a.h _ _ c.from_residual-in_err-check_seat.ensures) refl

pub returns : goal.returns
returns c =
    let a = c.args in
    let e = ap (λ (r : Result Unit Refusal). number_in r) c.in_ok-x.was in
    seal-out 4096 a.h a.resident.now (ending_of a.x) a.log.now a.db.now a.clog.now a.frames.now
    (accepted c.meta_call.result) 0 c.in_ok-check_room.ensures refl e _ c.in_ok-check_seat.ensures
    c.slot_for-slot.result c.max-pages.result refl c.slot_for-slot.ensures c.max-pages.ensures (meta-accepted _ _ _ _ _ _ c.meta_call.ensures)
