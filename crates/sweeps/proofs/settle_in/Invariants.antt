-- `sweeps::settle_in` meets its contract. The loop's invariant: settling what is left gives what was asked for. The measure is how many bytes are left. Assumes nothing.
use mathlib.Core.Path.{◌≡◌}
use mathlib.Core.List.{map}
use Prim.Native.Nat.{◌-◌, ◌≤◌}
use lib.ListN.{length}
use lib.Seq.{sets, slice}
use Rattle.clog.specs.Slots.{settled_byte}
use Rattle.sweeps.proofs.settle_in.Given as goal

abbrev pub invariant-loop-i : goal.invariant-loop-i
invariant-loop-i l = (length l.clog ≡ length l.initial.clog) × (l.i ≤ l.len) × (sets l.clog l.i (map settled_byte (slice l.i l.len l.clog)) ≡ sets l.initial.clog 8 (map settled_byte (slice 8 l.len l.initial.clog)))

abbrev pub decreases-loop-i : goal.decreases-loop-i
decreases-loop-i l = l.len - l.i
