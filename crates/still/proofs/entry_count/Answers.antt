-- `still::entry_count` meets its contract. Assumes nothing.
use Rattle.lent.specs.Lent.{lent}
use Rattle.still.proofs.Entries.{count-first, count-out}
use Rattle.still.proofs.entry_count.Goals as goal

pub returns-in_err-check_front : goal.returns-in_err-check_front
returns-in_err-check_front c =
    let a = c.args in
    count-first 4096 (lent a.h a.rows.now a.resident.now a.touched.now) a.log.now a.db.now a.clog.now a.frames.now c.in_err-check_front.field-0.0 c.in_err-check_front.ensures _ c.from_residual.ensures

pub returns : goal.returns
returns c = let a = c.args in count-out 4096 (lent a.h a.rows.now a.resident.now a.touched.now) a.log.now a.db.now a.clog.now a.frames.now c.in_ok-check_front.ensures
