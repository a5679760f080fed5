-- `table::overlay` meets its contract. The loop's invariant is `Carried` of proofs/Laws.antt: setting what is left in the table carried gives what setting all
-- in the first one gives. Assumes nothing.
use lib.ListN.{drop}
use Rattle.table.proofs.Laws.{Carried}
use Rattle.table.proofs.overlay.Given as goal

abbrev pub invariant-loop-e : goal.invariant-loop-e
invariant-loop-e l = Carried 256 l.fn.t l.e-items (drop l.e-index l.e-items) l.u
