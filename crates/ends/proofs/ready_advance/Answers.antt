-- `ends::ready_advance` meets its contract: refused by 1 or 14, nothing to do, or sealed. Assumes nothing.
use native.Mathlib.Omega.{arith}
use mathlib.Core.Path.{refl}
use borrow.Author.Rules.{rules}
use Rattle.world.specs.Calls.{Advance}
use Rattle.lent.specs.Lent.{lent}
use Rattle.lent.proofs.Laws.{front-passed}
use Rattle.ready.proofs.Prepared.{no-zero}
use Rattle.acts.proofs.Laws.{handed-made, made-front, bare-accepted}
use Rattle.ends.proofs.Advanced.{advance-low-made, advance-made}
use Rattle.ends.proofs.ready_advance.Goals as goal

pub returns-in_err-check_front : goal.returns-in_err-check_front
returns-in_err-check_front c =
    let a = c.args in
    made-front 4096 (Advance a.mark) (lent a.h a.rows.now a.resident.now a.touched.now) a.log.now a.db.now a.clog.now a.frames.now _ _ (handed-made a.h _ _ c.from_residual.ensures) c.in_err-check_front.ensures (no-zero _)

pub returns-then-mark-h : goal.returns-then-mark-h
returns-then-mark-h c =
    let a = c.args in
    let p = front-passed 4096 (lent a.h a.rows.now a.resident.now a.touched.now) a.log.now a.db.now a.clog.now a.frames.now 0 c.in_ok-check_front.ensures refl in
    advance-low-made 4096 (lent a.h a.rows.now a.resident.now a.touched.now) (record { rows = search rules; resident = search rules; touched = search rules }) a.mark a.log.now a.db.now a.clog.now a.frames.now p.0 p.1 _ c.if-mark-h.true (bare-accepted _ _ _ c.bare.ensures)

pub returns : goal.returns
returns c =
    let a = c.args in
    let p = front-passed 4096 (lent a.h a.rows.now a.resident.now a.touched.now) a.log.now a.db.now a.clog.now a.frames.now 0 c.in_ok-check_front.ensures refl in
    advance-made 4096 (lent a.h a.rows.now a.resident.now a.touched.now) (record { rows = search rules; resident = search rules; touched = search rules }) a.mark a.log.now a.db.now a.clog.now a.frames.now p.0 p.1 _ c.if-mark-h.false (omega arith) _ c.advance_ending-x.ensures c.seal.ensures
