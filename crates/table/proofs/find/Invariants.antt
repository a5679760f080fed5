-- `table::find` meets its contract. The loop's invariant: a look-up in what is left of the entries gives what a look-up in all of them gives.
-- Assumes nothing.
use mathlib.Core.Path.{◌≡◌}
use lib.ListN.{drop}
use Rattle.sorted.specs.Sorted.{look_by}
use Rattle.table.specs.Entries.{id_of}
use Rattle.table.proofs.find.Given as goal

abbrev pub invariant-loop-e : goal.invariant-loop-e
invariant-loop-e l = look_by id_of l.id.0 l.e-items ≡ look_by id_of l.id.0 (drop l.e-index l.e-items)
