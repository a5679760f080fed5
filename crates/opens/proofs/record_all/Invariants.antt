-- `opens::record_all` meets its contract. The loop's invariant: recording the entries that are left gives what recording all gives, and the length stays
-- within the buffer. Assumes nothing.
use mathlib.Core.Path.{◌≡◌}
use Prim.Native.Nat.{◌≤◌}
use lib.ListN.{length, take}
use Rattle.fields.specs.Files.{file_of}
use Rattle.table.specs.Entries.{list_of}
use Rattle.clog.specs.Slots.{record_all}
use Rattle.opens.proofs.record_all.Given as goal

abbrev pub invariant-loop-i : goal.invariant-loop-i
invariant-loop-i l = (8 ≤ l.n) × (l.n ≤ length l.initial.clog)
    × (record_all 8 0 (take l.i l.t.entries) (file_of l.clog l.n) ≡ record_all 8 0 (list_of l.t) (file_of l.initial.clog l.len))
