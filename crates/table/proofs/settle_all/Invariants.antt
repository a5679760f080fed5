-- `table::settle_all` meets its contract. The loop's invariant: the entries that were passed are settled, the others are as they were. Assumes nothing.
use mathlib.Core.Path.{◌≡◌}
use mathlib.Core.List.{◌++◌, map}
use lib.ListN.{take, drop}
use Rattle.table.specs.Entries.{settled_entry}
use Rattle.table.proofs.settle_all.Given as goal

abbrev pub invariant-loop-e : goal.invariant-loop-e
invariant-loop-e l = l.entries ≡ map settled_entry (take l.e-index l.initial.entries) ++ drop l.e-index l.initial.entries
