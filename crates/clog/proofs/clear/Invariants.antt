-- `clog::clear` meets its contract. The loop's invariant: clearing what is left, from the place that is reached, gives what was asked for. Assumes nothing.
use mathlib.Core.Path.{◌≡◌}
use Prim.Native.Nat.{◌-◌, ◌*◌}
use lib.ListN.{drop}
use lib.Seq.{sets}
use Rattle.clog.specs.Slots.{cleared}
use Rattle.clog.proofs.clear.Given as goal

abbrev pub invariant-loop-i : goal.invariant-loop-i
invariant-loop-i l = sets l.body l.i (cleared (l.w - 4 * l.i) (drop l.i l.body)) ≡ cleared l.w l.initial.body
