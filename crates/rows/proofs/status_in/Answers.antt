-- `rows::status_in` meets its contract. Assumes nothing.
use borrow.Author.Tests.{eq-eqb, ne_eqb}
use Rattle.rows.specs.Rows.{status_in}
use Rattle.rows.proofs.status_in.Goals as goal

pub returns-then-tag-eq0 : goal.returns-then-tag-eq0
unfolding status_in
returns-then-tag-eq0 c = rw (eq-eqb c.args.tag 0 c.if-tag-eq0.true)

pub returns-then-tag-eq1 : goal.returns-then-tag-eq1
unfolding status_in
returns-then-tag-eq1 c = let a = c.args in rw (ne_eqb a.tag 0 c.if-tag-eq0.false, eq-eqb a.tag 1 c.if-tag-eq1.true)

pub returns : goal.returns
unfolding status_in
returns c = let a = c.args in rw (ne_eqb a.tag 0 c.if-tag-eq0.false, ne_eqb a.tag 1 c.if-tag-eq1.false)
