-- `still::allocate_id` meets its contract: refused by the first test, or the next id is handed out. Assumes nothing.
use mathlib.Core.Path.{refl}
use borrow.Author.Rules.{rules}
use Rattle.fields.specs.Answers.{no_id}
use Rattle.world.specs.Calls.{AllocId}
use Rattle.lent.specs.Lent.{lent}
use Rattle.lent.proofs.Laws.{front-passed}
use Rattle.still.specs.Still.{id_allocated}
use Rattle.still.proofs.Refused.{handed-first}
use Rattle.still.proofs.Transactions.{id_left}
use Rattle.still.proofs.allocate_id.Goals as goal

pub returns-in_err-check_front : goal.returns-in_err-check_front
unfolding id_allocated
returns-in_err-check_front c =
    let a = c.args in
    handed-first 4096 (lent a.h a.rows.now a.resident.now a.touched.now) a.log.now a.db.now a.clog.now a.frames.now c.in_err-check_front.field-0.0 c.in_err-check_front.ensures AllocId a.h.next no_id _ c.from_residual.ensures

pub returns : goal.returns
returns c =
    let a = c.args in
    let p = front-passed 4096 (lent a.h a.rows.now a.resident.now a.touched.now) a.log.now a.db.now a.clog.now a.frames.now 0 c.in_ok-check_front.ensures refl in
    let n = c.next_id-next in
    id_left 4096 (lent a.h a.rows.now a.resident.now a.touched.now) a.log.now a.db.now a.clog.now a.frames.now (record { rows = search rules; resident = search rules; touched = search rules }) p.0 p.1 n.result n.ensures
