-- `quiet::read_page` meets its contract: refused with the old store and zeros, or the page's frame is filled, unless it was there, and copied out. Assumes nothing.
use mathlib.Core.Path.{refl}
use Rattle.quiet.proofs.Pages.{read-refused, read_out}
use Rattle.quiet.proofs.read_page.Goals as goal

pub returns-in_err-seat : goal.returns-in_err-seat
returns-in_err-seat c =
    let a = c.args in
    read-refused 4096 a.page a.s a.log.now a.db.now a.clog.now a.frames.now _ c.in_err-seat.field-0.0 c.from_residual.ensures c.in_err-seat.ensures

pub returns : goal.returns
returns c =
    let a = c.args in
    read_out 4096 a.page a.s a.log.now a.db.now a.clog.now a.frames.now _ c.in_ok-seat.ensures refl c.fill.new.frames c.frame_of-bytes.result c.fill.ensures c.frame_of-bytes.ensures
