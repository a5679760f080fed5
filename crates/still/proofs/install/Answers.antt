-- `still::install` meets its contract: refused by the first test, by 14 of the list, by 9, or the transaction is put in. Assumes nothing.
use mathlib.Core.Path.{refl, sym, ◌∙◌}
use borrow.Author.Rules.{rules}
use borrow.Author.Tests.{not-true, not-false}
use Rattle.world.specs.Calls.{Install}
use Rattle.lent.specs.Lent.{lent}
use Rattle.lent.proofs.Laws.{front-passed}
use Rattle.still.proofs.Refused.{refused-on}
use Rattle.still.proofs.Transactions.{install-14, install-9, install-left}
use Rattle.still.proofs.install.Goals as goal

pub returns-in_err-check_front : goal.returns-in_err-check_front
returns-in_err-check_front c =
    let a = c.args in
    refused-on 4096 (lent a.h a.rows.now a.resident.now a.touched.now) a.log.now a.db.now a.clog.now a.frames.now c.in_err-check_front.field-0.0 c.in_err-check_front.ensures (Install a.id a.pages.now) _ c.from_residual.ensures

pub returns-then-not-list_formed : goal.returns-then-not-list_formed
returns-then-not-list_formed c =
    let a = c.args in
    let p = front-passed 4096 (lent a.h a.rows.now a.resident.now a.touched.now) a.log.now a.db.now a.clog.now a.frames.now 0 c.in_ok-check_front.ensures refl in
    let l = c.list_formed in
    install-14 4096 (lent a.h a.rows.now a.resident.now a.touched.now) a.log.now a.db.now a.clog.now a.frames.now (record { rows = search rules; resident = search rules; touched = search rules }) p.0 p.1 a.id a.pages.now (sym l.ensures ∙ not-true l.result c.if-not-list_formed.true-raw)

pub returns-then-h-eq1 : goal.returns-then-h-eq1
returns-then-h-eq1 c =
    let a = c.args in
    let p = front-passed 4096 (lent a.h a.rows.now a.resident.now a.touched.now) a.log.now a.db.now a.clog.now a.frames.now 0 c.in_ok-check_front.ensures refl in
    let l = c.list_formed in
    install-9 4096 (lent a.h a.rows.now a.resident.now a.touched.now) a.log.now a.db.now a.clog.now a.frames.now (record { rows = search rules; resident = search rules; touched = search rules }) p.0 p.1 a.id a.pages.now (sym l.ensures ∙ not-false l.result c.if-not-list_formed.false-raw) c.if-h-eq1.true

pub returns : goal.returns
returns c =
    let a = c.args in
    let p = front-passed 4096 (lent a.h a.rows.now a.resident.now a.touched.now) a.log.now a.db.now a.clog.now a.frames.now 0 c.in_ok-check_front.ensures refl in
    let l = c.list_formed in
    install-left 4096 (lent a.h a.rows.now a.resident.now a.touched.now) a.log.now a.db.now a.clog.now a.frames.now (record { rows = search rules; resident = search rules; touched = search rules }) p.0 p.1 a.id a.pages.now (sym l.ensures ∙ not-false l.result c.if-not-list_formed.false-raw) c.if-h-eq1.false c.lay.new.touched c.lay.ensures
