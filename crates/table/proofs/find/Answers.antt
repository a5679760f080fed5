-- `table::find` meets its contract. The loop's invariant: a look-up in what is left of the entries gives what a look-up in all of them gives.
-- Assumes nothing.
use mathlib.Core.Path.{sym, ap, ◌∙◌}
use Rattle.sorted.proofs.Laws.{look-found, look-next, look-past}
use Rattle.table.specs.Entries.{status_of, known_of, id_of, blank}
use Rattle.table.proofs.find.Goals as goal

pub returns-then-e-id : goal.returns-then-e-id
unfolding status_of
returns-then-e-id c =
    let l = c.loop-e in
    rw (← c.held-e-items.ensures.list) (sym (ap known_of (l.invariant ∙ look-found id_of blank _ _ l.e-index c.loop-e-test.true c.if-e-id.true)))

pub loop-e-preserved : goal.loop-e-preserved
loop-e-preserved c =
    let l = c.loop-e in
    l.invariant ∙ look-next id_of blank _ _ l.e-index c.loop-e-test.true c.if-e-id.false

pub returns : goal.returns
unfolding status_of
returns c =
    let l = c.loop-e in
    rw (← c.held-e-items.ensures.list) (sym (ap known_of (l.invariant ∙ look-past id_of blank _ _ l.e-index c.loop-e-test.false)))
