-- `still::write_page` meets its contract: refused with the old store, or the bytes stand in the page's frame. Assumes nothing.
use mathlib.Core.Path.{refl}
use borrow.Author.Rules.{rules}
use Rattle.lent.specs.Lent.{lent}
use Rattle.still.proofs.Pages.{write-on, write_done}
use Rattle.still.proofs.write_page.Goals as goal

pub returns-in_err-seat : goal.returns-in_err-seat
returns-in_err-seat c =
    let a = c.args in
    write-on 4096 a.page (lent a.h a.rows.now a.resident.now a.touched.now) a.log.now a.db.now a.clog.now a.frames.now c.in_err-seat.field-0.0 c.seat_page.new.resident c.in_err-seat.ensures _ c.from_residual.ensures a.bytes.now

pub returns : goal.returns
returns c =
    let a = c.args in
    let seat = c.in_ok-seat in
    write_done 4096 a.page (lent a.h a.rows.now a.resident.now a.touched.now) a.log.now a.db.now a.clog.now a.frames.now 0 seat.seat.there seat.seat.slot seat.seat.head c.seat_page.new.resident seat.ensures refl a.bytes.now c.put_frame.new.buf (search rules) c.put_frame.ensures
