-- `quiet::entry_at` meets its contract: refused by 1 or 14, nothing at or past the count, or the array's entry. Assumes nothing.
use mathlib.Core.Path.{sym}
use borrow.Author.Rules.{rules}
use Rattle.sorted.proofs.Laws.{length-of-mapped}
use Rattle.quiet.proofs.Entries.{read-refused, in_array, read_past, read_is}
use Rattle.quiet.proofs.entry_at.Goals as goal

pub returns-in_err-check_front : goal.returns-in_err-check_front
returns-in_err-check_front c =
    let a = c.args in
    read-refused 4096 a.s a.log.now a.db.now a.clog.now a.frames.now a.i _ c.in_err-check_front.field-0.0 c.from_residual.ensures c.in_err-check_front.ensures

pub returns-then-s-i : goal.returns-then-s-i
returns-then-s-i c = let a = c.args in read_past 4096 a.s a.log.now a.db.now a.clog.now a.frames.now (sym c.in_ok-check_front.ensures) (record { entries = search (rules, length-of-mapped); pages = search rules; touched = search rules }) a.i c.if-s-i.true

pub offset_bounds-s-i : goal.offset_bounds-s-i
offset_bounds-s-i c = let a = c.args in search (rules, in_array 4096 a.s a.log.now a.db.now a.clog.now a.frames.now (sym c.in_ok-check_front.ensures) a.i c.if-s-i.false)

pub bounds-s-i : goal.bounds-s-i
bounds-s-i c = let a = c.args in in_array 4096 a.s a.log.now a.db.now a.clog.now a.frames.now (sym c.in_ok-check_front.ensures) a.i c.if-s-i.false

pub returns : goal.returns
returns c = let a = c.args in read_is 4096 a.s a.log.now a.db.now a.clog.now a.frames.now (sym c.in_ok-check_front.ensures) (record { entries = search (rules, length-of-mapped); pages = search rules; touched = search rules }) a.i c.if-s-i.false
