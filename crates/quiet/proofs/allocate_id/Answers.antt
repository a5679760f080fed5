-- `quiet::allocate_id` meets its contract: refused by 1 or 14, or the next id is given and goes up by one. Assumes nothing.
use mathlib.Core.Path.{sym}
use borrow.Author.Rules.{rules}
use Rattle.fields.specs.Answers.{no_id}
use Rattle.sorted.proofs.Laws.{length-of-mapped}
use Rattle.world.specs.Calls.{AllocId}
use Rattle.quiet.specs.Handed.{id_allocated}
use Rattle.quiet.proofs.Refused.{by-front, handed-out}
use Rattle.quiet.proofs.Transactions.{id-out}
use Rattle.quiet.proofs.allocate_id.Goals as goal

pub returns-in_err-check_front : goal.returns-in_err-check_front
unfolding id_allocated
returns-in_err-check_front c =
    let a = c.args in
    let r = c.in_err-check_front.field-0.0 in
    handed-out 4096 AllocId a.s a.log.now a.db.now a.clog.now a.frames.now a.s.next no_id _ r c.from_residual.ensures (by-front 4096 AllocId a.s a.log.now a.db.now a.clog.now a.frames.now r c.in_err-check_front.ensures)

pub returns : goal.returns
returns c = let a = c.args in rw c.next_id-next.ensures (id-out 4096 a.s a.log.now a.db.now a.clog.now a.frames.now (sym c.in_ok-check_front.ensures) (record { entries = search (rules, length-of-mapped); pages = search rules; touched = search rules }))
