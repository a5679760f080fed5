-- `quiet::write_page` meets its contract: refused with the old store, or the bytes stand in the page's frame. Assumes nothing.
use mathlib.Core.Path.{refl}
use borrow.Author.Rules.{rules}
use Rattle.quiet.proofs.Pages.{write-refused, write-out}
use Rattle.quiet.proofs.write_page.Goals as goal

pub returns-in_err-seat : goal.returns-in_err-seat
returns-in_err-seat c =
    let a = c.args in
    write-refused 4096 a.page a.bytes.now a.s a.log.now a.db.now a.clog.now a.frames.now _ c.in_err-seat.field-0.0 c.from_residual.ensures c.in_err-seat.ensures

pub returns : goal.returns
returns c =
    let a = c.args in
    write-out 4096 a.page a.bytes.now a.s a.log.now a.db.now a.clog.now a.frames.now _ c.in_ok-seat.ensures refl (search rules) c.put_frame.new.buf c.put_frame.ensures
