-- `rows::lay_table` meets its contract. The loop's invariant: the first i rows are the table's, the others are as they were. Assumes nothing.
use mathlib.Core.Path.{◌≡◌}
use mathlib.Core.List.{◌++◌, map}
use lib.ListN.{take, drop}
use Rattle.rows.specs.Rows.{row_of}
use Rattle.rows.proofs.lay_table.Given as goal

abbrev pub invariant-loop-i : goal.invariant-loop-i
invariant-loop-i l = l.rows ≡ map row_of (take l.i l.t.entries) ++ drop l.i l.initial.rows
