-- `xacts::read_pages` meets its contract: a law of proofs/Ways.antt for each way out; that the call is accepted says that the output has room. Assumes nothing.
use mathlib.Core.Path.{refl}
use Rattle.clog.proofs.Ways.{handed-on}
use Rattle.xacts.proofs.Ways.{read_fits, back-no, back_done}
use Rattle.xacts.proofs.read_pages.Goals as goal

pub returns-in_err-check_read : goal.returns-in_err-check_read
returns-in_err-check_read c = rw (handed-on _ _ c.from_residual.ensures.1) (back-no 8192 _ _ _ c.in_err-check_read.ensures)

pub read_body-requires : goal.read_body-requires
read_body-requires c = read_fits 8192 _ _ _ c.in_ok-check_read.ensures refl

pub returns : goal.returns
returns c = back_done 8192 _ c.args.out.now c.in_ok-check_read.ensures _ c.read_body.ensures
