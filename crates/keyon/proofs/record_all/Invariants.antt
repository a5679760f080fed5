-- `keyon::record_all` meets its contract. The loop's invariant: recording the entries that are left gives what recording all gives, and the length stays within the buffer. Assumes nothing.
use mathlib.Core.Path.{◌≡◌}
use mathlib.Core.List.{map}
use Prim.Native.Nat.{◌≤◌}
use lib.ListN.{length, take}
use Rattle.fields.specs.Files.{file_of}
use Rattle.rows.specs.Rows.{entry_of}
use Rattle.clog.specs.Slots.{record_all}
use Rattle.keyon.proofs.record_all.Given as goal

abbrev pub invariant-loop-i : goal.invariant-loop-i
invariant-loop-i l = (8 ≤ l.n) × (l.n ≤ length l.initial.clog)
    × (record_all 8 0 (take l.i (map entry_of l.rows)) (file_of l.clog l.n) ≡ record_all 8 0 (take l.count (map entry_of l.rows)) (file_of l.initial.clog l.len))
