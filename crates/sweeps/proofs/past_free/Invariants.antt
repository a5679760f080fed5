-- `sweeps::past_free` meets its contract. The loop's invariant: where the bytes that are not 0 begin is the same from i on. The measure is how many bytes are left. Assumes nothing.
use mathlib.Core.Path.{◌≡◌}
use Prim.Native.Nat.{◌-◌, ◌≤◌}
use lib.ListN.{length}
use Rattle.sweeps.specs.Inside.{busy_from}
use Rattle.sweeps.proofs.past_free.Given as goal

abbrev pub invariant-loop-i : goal.invariant-loop-i
invariant-loop-i l = (l.at ≤ l.i) × (l.i ≤ length l.s) × (busy_from l.s l.i ≡ busy_from l.s l.at)

abbrev pub decreases-loop-i : goal.decreases-loop-i
decreases-loop-i l = length l.s - l.i
