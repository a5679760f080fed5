-- `quiet::uninstall` meets its contract: refused by 1 or 14, or the transaction is handed out. Assumes nothing.
use mathlib.Core.Path.{sym}
use borrow.Author.Rules.{rules}
use Rattle.sorted.proofs.Laws.{length-of-mapped}
use Rattle.world.specs.Calls.{Uninstall}
use Rattle.form.specs.Store.{no_held}
use Rattle.quiet.specs.Handed.{uninstalled}
use Rattle.quiet.proofs.Refused.{by-front, handed-out}
use Rattle.quiet.proofs.Transactions.{uninstall-out}
use Rattle.quiet.proofs.uninstall.Goals as goal

pub returns-in_err-check_front : goal.returns-in_err-check_front
unfolding uninstalled
returns-in_err-check_front c =
    let a = c.args in
    let r = c.in_err-check_front.field-0.0 in
    handed-out 4096 Uninstall a.s a.log.now a.db.now a.clog.now a.frames.now a.s.held no_held _ r c.from_residual.ensures (by-front 4096 Uninstall a.s a.log.now a.db.now a.clog.now a.frames.now r c.in_err-check_front.ensures)

pub returns : goal.returns
returns c = let a = c.args in uninstall-out 4096 a.s a.log.now a.db.now a.clog.now a.frames.now (sym c.in_ok-check_front.ensures) (record { entries = search (rules, length-of-mapped); pages = search rules; touched = search rules })
