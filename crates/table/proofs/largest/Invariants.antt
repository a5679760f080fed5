-- `table::largest` meets its contract. The loop's invariant: the larger of the number held and the largest of what is left is the largest of all.
-- Assumes nothing.
use Prim.Native.Nat.{max}
use mathlib.Core.Path.{◌≡◌}
use lib.ListN.{drop}
use Rattle.table.specs.Entries.{largest_by}
use Rattle.table.specs.Inside.{number_of}
use Rattle.table.proofs.largest.Given as goal

abbrev pub invariant-loop-e : goal.invariant-loop-e
invariant-loop-e l = max l.m (largest_by (number_of l.times) (drop l.e-index l.e-items)) ≡ largest_by (number_of l.times) l.e-items
