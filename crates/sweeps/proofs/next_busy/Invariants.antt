-- `sweeps::next_busy` meets its contract. The loop's invariant: where the bytes that are not 0 begin is the same from i on. Assumes nothing.
use mathlib.Core.Path.{◌≡◌}
use Rattle.sweeps.specs.Inside.{busy_from}
use Rattle.sweeps.proofs.next_busy.Given as goal

abbrev pub invariant-loop-i : goal.invariant-loop-i
invariant-loop-i l = busy_from l.s l.i ≡ busy_from l.s l.at
