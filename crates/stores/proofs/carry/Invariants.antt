-- `stores::carry` meets its contract. The invariant: the stores that are left have room, and carrying them out gives the result. Assumes nothing.
use mathlib.Core.Path.{◌≡◌}
use Prim.Native.Nat.{◌-◌}
use lib.ListN.{length, take, drop}
use Rattle.world.specs.World.{files_of}
use Rattle.world.specs.Steps.{apply_all}
use Rattle.stores.specs.Plans.{meant}
use Rattle.stores.specs.Inside.{Enough}
use Rattle.stores.proofs.carry.Given as goal

abbrev pub invariant-loop-i : goal.invariant-loop-i
invariant-loop-i l = (length l.log ≡ length l.initial.log)
    × (length l.db ≡ length l.initial.db)
    × (length l.clog ≡ length l.initial.clog)
    × (Enough 4096 (drop l.i (meant 4096 l.frames l.plan)) (files_of l.at l.log l.db l.clog))
    × (apply_all 4096 (take (l.k - l.i) (drop l.i (meant 4096 l.frames l.plan))) (files_of l.at l.log l.db l.clog) ≡ apply_all 4096 (take (l.k - l.from) (drop l.from (meant 4096 l.frames l.plan))) (files_of l.initial.at l.initial.log l.initial.db l.initial.clog))
