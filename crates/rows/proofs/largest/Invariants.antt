-- `rows::largest` meets its contract. The loop's invariant: the larger of the number held and the largest of what is left is the largest of all. Assumes nothing.
use Prim.Native.Nat.{max}
use mathlib.Core.Path.{◌≡◌}
use mathlib.Core.List.{map}
use lib.ListN.{drop}
use Rattle.table.specs.Entries.{largest_by}
use Rattle.table.specs.Inside.{number_of}
use Rattle.rows.specs.Rows.{entry_of}
use Rattle.rows.proofs.largest.Given as goal

abbrev pub invariant-loop-row : goal.invariant-loop-row
invariant-loop-row l = max l.m (largest_by (number_of l.times) (map entry_of (drop l.row-index l.row-items))) ≡ largest_by (number_of l.times) (map entry_of l.row-items)
