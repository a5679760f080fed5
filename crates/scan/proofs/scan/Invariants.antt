-- `scan::scan` meets its contract. The loop's invariant: what is found so far, with what the records from the place on add to it, is what the whole log has.
-- The measure is how many bytes are left. Assumes nothing.
use mathlib.Core.Path.{◌≡◌}
use Prim.Native.Nat.{◌-◌, ◌≤◌}
use lib.ListN.{take, drop}
use Rattle.fields.specs.Files.{file_of}
use Rattle.wal.specs.Records.{parse}
use Rattle.scan.specs.Scans.{scanned_of, found}
use Rattle.scan.proofs.Turns.{onto}
use Rattle.scan.proofs.scan.Given as goal

abbrev pub invariant-loop-at : goal.invariant-loop-at
invariant-loop-at l = (l.at ≤ l.len) × (onto 4096 l.db l.clog (scanned_of l.s) (parse 4096 l.at (drop l.at (take l.len l.log))) ≡ found 4096 l.db l.clog (file_of l.log l.len))

abbrev pub decreases-loop-at : goal.decreases-loop-at
decreases-loop-at l = l.len - l.at
