-- `still::entry_at` meets its contract: refused by the first test, past the last entry, or the row's entry. Assumes nothing.
use borrow.Author.Rules.{rules}
use Rattle.lent.specs.Lent.{lent}
use Rattle.still.proofs.Entries.{read_first, read_past, read_is}
use Rattle.still.proofs.entry_at.Goals as goal

pub returns-in_err-check_front : goal.returns-in_err-check_front
returns-in_err-check_front c =
    let a = c.args in
    read_first 4096 (lent a.h a.rows.now a.resident.now a.touched.now) a.log.now a.db.now a.clog.now a.frames.now c.in_err-check_front.field-0.0 c.in_err-check_front.ensures a.i _ c.from_residual.ensures

pub returns-then-h-i : goal.returns-then-h-i
returns-then-h-i c = let a = c.args in read_past 4096 (lent a.h a.rows.now a.resident.now a.touched.now) a.log.now a.db.now a.clog.now a.frames.now c.in_ok-check_front.ensures (record { rows = search rules; resident = search rules; touched = search rules }) a.i c.if-h-i.true

pub returns : goal.returns
returns c =
    let a = c.args in
    read_is 4096 (lent a.h a.rows.now a.resident.now a.touched.now) a.log.now a.db.now a.clog.now a.frames.now c.in_ok-check_front.ensures (record { rows = search rules; resident = search rules; touched = search rules }) a.i c.entry_at.result c.entry_at.ensures c.if-h-i.false
