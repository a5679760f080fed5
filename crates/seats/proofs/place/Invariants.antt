-- `seats::place` meets its contract. The loop's invariant: the place is what was passed and the place in what is left. Assumes nothing.
use Prim.Native.Nat.{◌+◌}
use mathlib.Core.Path.{◌≡◌}
use lib.ListN.{drop}
use Rattle.frames.specs.Inside.{below_in}
use Rattle.seats.proofs.place.Given as goal

abbrev pub invariant-loop-i : goal.invariant-loop-i
invariant-loop-i l = below_in l.page l.touched ≡ l.i + below_in l.page (drop l.i l.touched)
