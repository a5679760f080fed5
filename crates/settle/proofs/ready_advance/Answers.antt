-- `settle::ready_advance` meets its contract: refused by 1 or 14, nothing to do, or sealed. Assumes nothing.
use lib.Dec.{lit≤}
use mathlib.Core.Path.{sym, ap}
use borrow.Author.Rules.{rules}
use Rattle.fields.proofs.AnswerLaws.{handed-on}
use Rattle.sorted.proofs.Laws.{length-of-mapped}
use Rattle.world.specs.Calls.{Advance}
use Rattle.form.specs.declared.Store.{Store}
use Rattle.ready.specs.Ready.{ready_of, accepted}
use Rattle.ready.proofs.Prepared.{no-zero, ready-front, nothing-accepted}
use Rattle.settle.specs.Inside.{with_table, marked_store}
use Rattle.settle.proofs.Advanced.{advance-low, advance-out}
use Rattle.settle.proofs.ready_advance.Goals as goal

pub returns-in_err-check_front : goal.returns-in_err-check_front
returns-in_err-check_front c =
    let a = c.args in
    let e = c.in_err-check_front in
    ready-front 4096 (Advance a.mark) a.s a.log.now a.db.now a.clog.now a.frames.now _ _ (ap (ready_of a.s) (handed-on _ _ c.from_residual.ensures)) e.ensures (no-zero e.field-0.0)

pub returns-then-mark-s : goal.returns-then-mark-s
returns-then-mark-s c =
    let a = c.args in
    advance-low 4096 a.mark a.s a.log.now a.db.now a.clog.now a.frames.now (sym c.in_ok-check_front.ensures) (record { entries = search (rules, length-of-mapped); pages = search rules; touched = search rules }) (accepted c.nothing.result) c.if-mark-s.true (nothing-accepted _ _ c.nothing.ensures)

pub returns : goal.returns
unfolding marked_store
returns c =
    let a = c.args in
    advance-out 4096 a.mark a.s a.log.now a.db.now a.clog.now a.frames.now (sym c.in_ok-check_front.ensures) (record { entries = search (rules, length-of-mapped); pages = search rules; touched = search rules }) c.if-mark-s.false (lit≤ tt) c.advance_plan-plan.result c.counters_of.result
    c.none-back.result (with_table c.with_mark-u.result a.s.table) (ready_of a.s c.seal.result) c.advance_plan-plan.ensures c.counters_of.ensures c.none-back.ensures
    (ap (λ (u : Store). with_table u a.s.table) c.with_mark-u.ensures) c.seal.ensures
