-- `stores::lens_at` meets its contract. The invariant: what is told of the stores that are left is told of them all; the log's length stays small. Assumes nothing.
use mathlib.Core.Path.{◌≡◌}
use Prim.Native.Nat.{◌+◌, ◌-◌, ◌*◌, ◌≤◌}
use lib.ListN.{drop}
use Rattle.stores.specs.Plans.{steps_of}
use Rattle.stores.specs.Inside.{tell_steps}
use Rattle.stores.proofs.lens_at.Given as goal

abbrev pub invariant-loop-i : goal.invariant-loop-i
invariant-loop-i l = (l.at.log ≤ l.initial.at.log + l.i * 4113)
    × (drop (l.k - l.i) (tell_steps 4096 (drop l.i (steps_of l.plan)) l.at) ≡ drop l.k (tell_steps 4096 (steps_of l.plan) l.initial.at))
