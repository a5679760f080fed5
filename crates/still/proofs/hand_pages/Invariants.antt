-- `still::hand_pages` meets its contract: what is left to store, stored, gives what was asked for. Assumes nothing.
use mathlib.Core.Path.{◌≡◌}
use lib.ListN.{take, drop}
use lib.Seq.{sets}
use Rattle.still.proofs.hand_pages.Given as goal

abbrev pub invariant-loop-i : goal.invariant-loop-i
invariant-loop-i l = sets l.out l.i (drop l.i (take l.n l.touched)) ≡ sets l.initial.out 0 (take l.n l.touched)
