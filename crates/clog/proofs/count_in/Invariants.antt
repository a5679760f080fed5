-- `clog::count_in` meets its contract. The loop's invariant: the count and how many entries are left make how many there are.
-- The measure is how many slots are left. Assumes nothing.
use mathlib.Core.Path.{◌≡◌}
use Prim.Native.Nat.{◌+◌, ◌-◌, ◌≤◌}
use lib.ListN.{length, drop}
use Rattle.clog.specs.Slots.{codes, entries_from}
use Rattle.clog.proofs.count_in.Given as goal

abbrev pub invariant-loop-k : goal.invariant-loop-k
invariant-loop-k l = (l.k ≤ l.end) × (l.n ≤ l.k) × (l.n + length (entries_from (0 + l.k) (drop l.k (codes (drop l.h l.s)))) ≡ length (entries_from 0 (codes (drop l.h l.s))))

abbrev pub decreases-loop-k : goal.decreases-loop-k
decreases-loop-k l = l.end - l.k
