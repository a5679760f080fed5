-- `still::uninstall` meets its contract: refused by the first test or by 13, or the transaction is handed out. Assumes nothing.
use mathlib.Core.Path.{refl}
use borrow.Author.Rules.{rules}
use Rattle.lent.specs.Lent.{lent}
use Rattle.lent.proofs.Laws.{front-passed}
use Rattle.still.proofs.Transactions.{uninstall-first, touched-good, touched-few, uninstall-13, uninstall-left}
use Rattle.still.proofs.uninstall.Goals as goal

pub returns-in_err-check_front : goal.returns-in_err-check_front
returns-in_err-check_front c =
    let a = c.args in
    uninstall-first 4096 a.out.now (lent a.h a.rows.now a.resident.now a.touched.now) a.log.now a.db.now a.clog.now a.frames.now c.in_err-check_front.field-0.0 c.in_err-check_front.ensures _ c.from_residual.ensures

pub returns-then-out-h : goal.returns-then-out-h
returns-then-out-h c =
    let a = c.args in
    let p = front-passed 4096 (lent a.h a.rows.now a.resident.now a.touched.now) a.log.now a.db.now a.clog.now a.frames.now 0 c.in_ok-check_front.ensures refl in
    uninstall-13 4096 (lent a.h a.rows.now a.resident.now a.touched.now) a.log.now a.db.now a.clog.now a.frames.now (record { rows = search rules; resident = search rules; touched = search rules }) p.0 p.1 a.out.now c.if-out-h.true

pub hand_pages-requires : goal.hand_pages-requires
hand_pages-requires c =
    let a = c.args in
    let p = front-passed 4096 (lent a.h a.rows.now a.resident.now a.touched.now) a.log.now a.db.now a.clog.now a.frames.now 0 c.in_ok-check_front.ensures refl in
    (touched-few 4096 (lent a.h a.rows.now a.resident.now a.touched.now) a.log.now a.db.now a.clog.now a.frames.now (record { rows = search rules; resident = search rules; touched = search rules }) p.0 p.1, c.if-out-h.false, touched-good 4096 (lent a.h a.rows.now a.resident.now a.touched.now) a.log.now a.db.now a.clog.now a.frames.now (record { rows = search rules; resident = search rules; touched = search rules }) p.0 p.1)

pub returns : goal.returns
returns c =
    let a = c.args in
    let p = front-passed 4096 (lent a.h a.rows.now a.resident.now a.touched.now) a.log.now a.db.now a.clog.now a.frames.now 0 c.in_ok-check_front.ensures refl in
    uninstall-left 4096 (lent a.h a.rows.now a.resident.now a.touched.now) a.log.now a.db.now a.clog.now a.frames.now (record { rows = search rules; resident = search rules; touched = search rules }) p.0 p.1 a.out.now c.hand_pages.new.out c.if-out-h.false c.hand_pages.ensures
