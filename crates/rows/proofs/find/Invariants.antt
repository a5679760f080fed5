-- `rows::find` meets its contract. The loop's invariant: a look-up in what is left of the rows gives what a look-up in all of them gives. Assumes nothing.
use mathlib.Core.Path.{◌≡◌}
use lib.ListN.{drop}
use Rattle.sorted.specs.Sorted.{look_by}
use Rattle.rows.specs.Rows.{row_id}
use Rattle.rows.proofs.find.Given as goal

abbrev pub invariant-loop-row : goal.invariant-loop-row
invariant-loop-row l = look_by row_id l.id.0 l.row-items ≡ look_by row_id l.id.0 (drop l.row-index l.row-items)
