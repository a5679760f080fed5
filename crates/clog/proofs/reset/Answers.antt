-- `clog::reset` meets its contract: a law of proofs/Ways.antt for each way out. Assumes nothing.
use Rattle.clog.proofs.Ways.{handed-on, wiped-no, wiped-done}
use Rattle.clog.specs.Slots.{clog_magic}
use Rattle.clog.proofs.reset.Goals as goal

pub returns-in_err-check_reset : goal.returns-in_err-check_reset
returns-in_err-check_reset c = rw (handed-on _ _ c.from_residual.ensures.1) (wiped-no _ _ _ c.in_err-check_reset.ensures)

pub returns : goal.returns
unfolding clog_magic
returns c = wiped-done _ _ _ c.in_ok-check_reset.ensures c.lay.ensures
