-- `leaves::status_in` meets its contract: each tag by itself. Assumes nothing.
use borrow.Author.Tests.{eq-eqb, ne_eqb}
use Rattle.rows.specs.Rows.{status_in}
use Rattle.leaves.proofs.status_in.Goals as goal

pub returns-then-tag-eq0 : goal.returns-then-tag-eq0
unfolding status_in
returns-then-tag-eq0 c = rw (eq-eqb c.args.tag 0 c.if-tag-eq0.true)

pub returns-then-tag-eq1 : goal.returns-then-tag-eq1
unfolding status_in
returns-then-tag-eq1 c =
    let tag = c.args.tag in
    rw (ne_eqb tag 0 c.if-tag-eq0.false, eq-eqb tag 1 c.if-tag-eq1.true)

pub returns : goal.returns
unfolding status_in
returns c =
    let tag = c.args.tag in
    rw (ne_eqb tag 0 c.if-tag-eq0.false, ne_eqb tag 1 c.if-tag-eq1.false)
