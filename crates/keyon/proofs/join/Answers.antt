-- `keyon::join` meets its contract. Assumes nothing.
use mathlib.Core.Path.{ap, ◌∙◌}
use borrow.Author.Tests.{eq-eqb, ne_eqb}
use Rattle.rows.specs.Rows.{Rowed, set_all}
use Rattle.keyon.specs.Inside.{entries_of, joined}
use Rattle.keyon.proofs.join.Goals as goal

pub returns-then-h-ne-ACCEPTED : goal.returns-then-h-ne-ACCEPTED
unfolding joined
returns-then-h-ne-ACCEPTED c = let a = c.args in rw (ne_eqb a.h.number 0 c.if-h-ne-ACCEPTED.true, c.number.ensures)

pub returns : goal.returns
unfolding joined
returns c =
    let a = c.args in
    rw (eq-eqb a.h.number 0 c.if-h-ne-ACCEPTED.false)
    (c.overlay.ensures ∙ ap (λ (r : Rowed). set_all 256 r (entries_of a.h.count a.logged.now)) c.list-c.ensures)
