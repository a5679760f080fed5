-- `quiet::install` meets its contract: refused by 1 or 14, by 14 of the transaction, by 9, or put in. Assumes nothing.
use mathlib.Core.Path.{sym, ap, ◌∙◌}
use mathlib.Core.Bool.{not}
use borrow.Author.Rules.{rules}
use Rattle.fields.specs.declared.refusal.Refusal.TheVariants.{Occupied, OutOfForm}
use Rattle.sorted.proofs.Laws.{length-of-mapped}
use Rattle.form.specs.Store.{installed, with_array}
use Rattle.form.proofs.Arrays.{touched-bad}
use Rattle.quiet.proofs.Refused.{by-front, by-call, refused-with, refused-on}
use Rattle.quiet.proofs.Transactions.{install-14, install-9, install-out}
use Rattle.quiet.proofs.install.Goals as goal

pub returns-in_err-check_front : goal.returns-in_err-check_front
returns-in_err-check_front c =
    let a = c.args in
    let r = c.in_err-check_front.field-0.0 in
    refused-on 4096 (installed a.x) a.s a.log.now a.db.now a.clog.now a.frames.now (with_array a.s a.x.touched) _ r c.from_residual.ensures (by-front 4096 (installed a.x) a.s a.log.now a.db.now a.clog.now a.frames.now r c.in_err-check_front.ensures)

pub returns-then-not-touched_formed : goal.returns-then-not-touched_formed
returns-then-not-touched_formed c =
    let a = c.args in
    let bad = sym (touched-bad a.x.touched (search rules)) ∙ ap not (sym c.touched_formed.ensures) ∙ c.if-not-touched_formed.true-raw in
    refused-with 4096 (installed a.x) a.s a.log.now a.db.now a.clog.now a.frames.now (with_array a.s a.x.touched) OutOfForm
    (by-call 4096 (installed a.x) a.s a.log.now a.db.now a.clog.now a.frames.now 14 c.in_ok-check_front.ensures (install-14 4096 a.x a.s a.log.now a.db.now a.clog.now a.frames.now bad))

pub returns-then-is_installed : goal.returns-then-is_installed
returns-then-is_installed c =
    let a = c.args in
    let good = sym (touched-bad a.x.touched (search rules)) ∙ ap not (sym c.touched_formed.ensures) ∙ c.if-not-touched_formed.false-raw in
    refused-with 4096 (installed a.x) a.s a.log.now a.db.now a.clog.now a.frames.now (with_array a.s a.x.touched) Occupied
    (by-call 4096 (installed a.x) a.s a.log.now a.db.now a.clog.now a.frames.now 9 c.in_ok-check_front.ensures
    (install-9 4096 a.x a.s a.log.now a.db.now a.clog.now a.frames.now good (sym c.is_installed.ensures ∙ c.if-is_installed.true)))

pub returns : goal.returns
returns c =
    let a = c.args in
    let good = sym (touched-bad a.x.touched (search rules)) ∙ ap not (sym c.touched_formed.ensures) ∙ c.if-not-touched_formed.false-raw in
    install-out 4096 a.x a.s a.log.now a.db.now a.clog.now a.frames.now good (sym c.in_ok-check_front.ensures) (sym c.is_installed.ensures ∙ c.if-is_installed.false) (record { entries = search (rules, length-of-mapped); pages = search rules; touched = search rules }) (search rules)
