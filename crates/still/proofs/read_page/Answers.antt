-- `still::read_page` meets its contract: refused with the old store and the old bytes, or the page's frame is copied out. Assumes nothing.
use mathlib.Core.Path.{◌≡◌, refl, sym, ◌∙◌}
use borrow.Author.Rules.{rules}
use lib.ListN.{length}
use Rattle.frames.proofs.CopyLaws.{stored-whole, length-frame}
use Rattle.lent.specs.Lent.{lent}
use Rattle.still.proofs.Pages.{read-on, read_done}
use Rattle.still.proofs.read_page.Goals as goal

pub returns-in_err-seat : goal.returns-in_err-seat
returns-in_err-seat c =
    let a = c.args in
    read-on 4096 a.page (lent a.h a.rows.now a.resident.now a.touched.now) a.log.now a.db.now a.clog.now a.frames.now c.in_err-seat.field-0.0 c.seat_page.new.resident c.in_err-seat.ensures _ c.from_residual.ensures a.bytes.now

pub returns : goal.returns
returns c =
    let a = c.args in
    let seat = c.in_ok-seat in
    let fill = c.fill in
    let copy = c.copy_frame in
    let long : length a.bytes.now ≡ 4096 = search rules in
    let whole = copy.ensures ∙ stored-whole _ a.bytes.now (length-frame 4096 fill.new.frames seat.seat.slot ∙ sym long) in
    read_done 4096 a.page (lent a.h a.rows.now a.resident.now a.touched.now) a.log.now a.db.now a.clog.now a.frames.now 0 seat.seat.there seat.seat.slot seat.seat.head c.seat_page.new.resident seat.ensures refl fill.new.frames copy.new.b fill.ensures whole a.bytes.now
