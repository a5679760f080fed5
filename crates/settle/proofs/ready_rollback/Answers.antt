-- `settle::ready_rollback` meets its contract: refused by 1 or 14, by 10, nothing to do, or sealed. Assumes nothing.
use lib.Dec.{lit≤}
use mathlib.Core.Path.{refl, sym, ap, ◌∙◌}
use borrow.Author.Rules.{rules}
use Rattle.fields.proofs.AnswerLaws.{handed-on}
use Rattle.sorted.proofs.Laws.{length-of-mapped}
use Rattle.table.specs.Entries.{inserted_of}
use Rattle.world.specs.Calls.{Rollback}
use Rattle.form.specs.declared.Store.{Store}
use Rattle.ready.specs.Ready.{ready_of, accepted}
use Rattle.ready.proofs.Prepared.{no-zero, ready-front, nothing-accepted}
use Rattle.settle.specs.Inside.{with_table, ended_store}
use Rattle.settle.proofs.RolledBack.{rollback-10, rollback-none, rollback-out}
use Rattle.settle.proofs.ready_rollback.Goals as goal

pub returns-in_err-check_front : goal.returns-in_err-check_front
returns-in_err-check_front c =
    let a = c.args in
    let e = c.in_err-check_front in
    ready-front 4096 (Rollback a.list.now) a.s a.log.now a.db.now a.clog.now a.frames.now _ _ (ap (ready_of a.s) (handed-on _ _ c.from_residual.ensures)) e.ensures (no-zero e.field-0.0)

pub returns-then-any_bad : goal.returns-then-any_bad
returns-then-any_bad c =
    let a = c.args in
    rollback-10 4096 a.list.now a.s a.log.now a.db.now a.clog.now a.frames.now (sym c.in_ok-check_front.ensures) _ refl (sym c.any_bad.ensures ∙ c.if-any_bad.true)

pub returns-in_default : goal.returns-in_default
returns-in_default c =
    let a = c.args in
    rollback-none 4096 a.list.now a.s a.log.now a.db.now a.clog.now a.frames.now (sym c.in_ok-check_front.ensures) (sym c.any_bad.ensures ∙ c.if-any_bad.false) (record { entries = search (rules, length-of-mapped); pages = search rules; touched = search rules }) (accepted c.nothing.result)
    c.in_default.is (nothing-accepted _ _ c.nothing.ensures)

pub returns : goal.returns
unfolding ended_store
returns c =
    let a = c.args in
    let t = inserted_of a.s.table c.with_status-table.result in
    rollback-out 4096 a.list.now a.s a.log.now a.db.now a.clog.now a.frames.now (sym c.in_ok-check_front.ensures) (sym c.any_bad.ensures ∙ c.if-any_bad.false) (record { entries = search (rules, length-of-mapped); pages = search rules; touched = search rules }) c.in-Installed.id
    c.in-Installed.is (lit≤ tt) t c.with_status-table.ensures c.rollback_plan-plan.result c.counters_of.result
    c.pick-back.result c.raised.result (with_table c.with_end-u.result t.table) (ready_of a.s c.seal.result) c.rollback_plan-plan.ensures c.counters_of.ensures
    c.pick-back.ensures c.raised.ensures (ap (λ (u : Store). with_table u t.table) c.with_end-u.ensures) c.seal.ensures
