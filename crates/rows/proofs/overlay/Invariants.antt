-- `rows::overlay` meets its contract. The loop's invariant: setting what is left of the entries in the rows as they are gives what setting all of them gives.
-- Assumes nothing.
use mathlib.Core.Path.{◌≡◌}
use mathlib.Core.List.{map}
use lib.ListN.{drop}
use Rattle.rows.specs.Rows.{entry_of, rowed, set_all}
use Rattle.rows.proofs.overlay.Given as goal

abbrev pub invariant-loop-row : goal.invariant-loop-row
invariant-loop-row l = set_all 256 (rowed l.c l.rows) (map entry_of (drop l.row-index l.row-items)) ≡ set_all 256 (rowed l.initial.c l.initial.rows) (map entry_of l.row-items)
