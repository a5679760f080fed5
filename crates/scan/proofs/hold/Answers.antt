-- `scan::hold` meets its contract: what was refused stays so, and the table says whether it has room. Assumes nothing.
use Rattle.fields.proofs.AnswerLaws.{handed-on}
use Rattle.scan.proofs.Held.{hold-shut, hold-set}
use Rattle.scan.proofs.hold.Goals as goal

pub returns-in_err-h : goal.returns-in_err-h
returns-in_err-h c = rw (handed-on _ _ c.from_residual.ensures) (hold-shut _ c.args.h _ c.in_err-h.was)

pub returns : goal.returns
returns c = rw c.in_ok-h.was (hold-set _ _ _ c.with_status.ensures)
