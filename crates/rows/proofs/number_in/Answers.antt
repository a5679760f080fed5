-- `rows::number_in` meets its contract. Assumes nothing.
use borrow.Author.Tests.{not-true, not-false}
use lib.ListN.{get_or}
use Rattle.rows.proofs.Several.{time-one, time-other}
use Rattle.rows.proofs.number_in.Goals as goal

pub returns-then-not-times : goal.returns-then-not-times
returns-then-not-times c = rw (not-true c.args.times c.if-not-times.true-raw)

pub returns-then-row-eq1 : goal.returns-then-row-eq1
returns-then-row-eq1 c =
    let a = c.args in
    rw (not-false a.times c.if-not-times.false-raw) (time-one (get_or a.row 1 0) (get_or a.row 2 0) c.if-row-eq1.true)

pub returns : goal.returns
returns c =
    let a = c.args in
    rw (not-false a.times c.if-not-times.false-raw) (time-other (get_or a.row 1 0) (get_or a.row 2 0) c.if-row-eq1.false)
