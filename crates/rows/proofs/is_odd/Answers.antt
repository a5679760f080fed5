-- `rows::is_odd` meets its contract: a row has three numbers, and which way the tests went says the rest. Assumes nothing.
use mathlib.Core.Path.{◌≡◌}
use borrow.Author.Rules.{rules}
use borrow.Author.Tests.{eq-eqb, ne_eqb, lt-ltb, le-ltb}
use lib.ListN.{length, get_or}
use Rattle.rows.specs.Rows.{odd_row}
use Rattle.rows.proofs.is_odd.Goals as goal

pub returns-then-tag-gt2 : goal.returns-then-tag-gt2
unfolding odd_row
returns-then-tag-gt2 c =
    let r = c.args.row in
    let len : length r ≡ 3 = search rules in
    rw (eq-eqb (length r) 3 len, ne_eqb (get_or r 1 0) 1 c.if-tag-ne1.true, lt-ltb 2 (get_or r 1 0) c.if-tag-gt2.true)

pub returns-else-tag-gt2 : goal.returns-else-tag-gt2
unfolding odd_row
returns-else-tag-gt2 c =
    let r = c.args.row in
    let len : length r ≡ 3 = search rules in
    rw (eq-eqb (length r) 3 len, ne_eqb (get_or r 1 0) 1 c.if-tag-ne1.true, le-ltb 2 (get_or r 1 0) c.if-tag-gt2.false)

pub returns-else-tag-ne1 : goal.returns-else-tag-ne1
unfolding odd_row
returns-else-tag-ne1 c =
    let r = c.args.row in
    let len : length r ≡ 3 = search rules in
    rw (eq-eqb (length r) 3 len, eq-eqb (get_or r 1 0) 1 c.if-tag-ne1.false)
