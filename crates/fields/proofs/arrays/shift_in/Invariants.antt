-- `fields::arrays::shift_in` meets its contract: what is left to move, moved, gives what was asked for. Assumes nothing.
use mathlib.Core.Path.{◌≡◌}
use lib.ListN.{drop}
use lib.Seq.{sets}
use Rattle.fields.proofs.Stored.{shifted}
use Rattle.fields.proofs.arrays.shift_in.Given as goal

abbrev pub invariant-loop-i : goal.invariant-loop-i
invariant-loop-i g l = sets l.a l.i (shifted l.carried (drop l.i l.a)) ≡ shifted l.fn.x l.initial.a
