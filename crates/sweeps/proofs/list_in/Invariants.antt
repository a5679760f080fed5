-- `sweeps::list_in` meets its contract. The loop's invariant: setting the entries that are left gives what setting all gives. The measure is how many bytes are left. Assumes nothing.
use mathlib.Core.Path.{◌≡◌}
use Prim.Native.Nat.{◌*◌, ◌-◌, ◌≤◌}
use lib.ListN.{length, drop}
use Rattle.rows.specs.Rows.{rowed, rowed_as, set_all}
use Rattle.clog.specs.Slots.{codes, entries_from, entries_in}
use Rattle.sweeps.proofs.list_in.Given as goal

abbrev pub invariant-loop-i : goal.invariant-loop-i
invariant-loop-i l = (8 ≤ l.i) × (l.i ≤ length l.s) × (set_all 256 (rowed l.h l.rows) (entries_from (4 * (l.i - 8)) (codes (drop l.i l.s))) ≡ set_all 256 (rowed_as 0 0 l.initial.rows) (entries_in 8 0 l.s))

abbrev pub decreases-loop-i : goal.decreases-loop-i
decreases-loop-i l = length l.s - l.i
