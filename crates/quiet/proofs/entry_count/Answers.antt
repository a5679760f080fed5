-- `quiet::entry_count` meets its contract: refused by 1 or 14, or the table's count. Assumes nothing.
use mathlib.Core.Path.{sym}
use Rattle.quiet.proofs.Entries.{count-refused, count-out}
use Rattle.quiet.proofs.entry_count.Goals as goal

pub returns-in_err-check_front : goal.returns-in_err-check_front
returns-in_err-check_front c =
    let a = c.args in
    count-refused 4096 a.s a.log.now a.db.now a.clog.now a.frames.now _ c.in_err-check_front.field-0.0 c.from_residual.ensures c.in_err-check_front.ensures

pub returns : goal.returns
returns c = let a = c.args in count-out 4096 a.s a.log.now a.db.now a.clog.now a.frames.now (sym c.in_ok-check_front.ensures)
