-- `clog::list_in` meets its contract. The loop's invariant: pushing the entries that are left gives what pushing all gives,
-- and there is room for them. The measure is how many slots are left. Assumes nothing.
use mathlib.Core.Path.{◌≡◌}
use Prim.Native.Nat.{◌+◌, ◌-◌, ◌≤◌}
use lib.ListN.{length, drop}
use Rattle.table.specs.Entries.{empty_table}
use Rattle.clog.specs.Slots.{codes, entries_from}
use Rattle.clog.specs.Inside.{push_all}
use Rattle.clog.proofs.list_in.Given as goal

abbrev pub invariant-loop-k : goal.invariant-loop-k
invariant-loop-k l = (l.k ≤ l.end) × (length l.t.entries ≡ 256) × (l.t.count + length (entries_from (l.base + l.k) (drop l.k (codes (drop l.h l.s)))) ≤ 256)
    × (push_all l.t (entries_from (l.base + l.k) (drop l.k (codes (drop l.h l.s)))) ≡ push_all (empty_table 256) (entries_from l.base (codes (drop l.h l.s))))

abbrev pub decreases-loop-k : goal.decreases-loop-k
decreases-loop-k l = l.end - l.k
