-- `replay::lay_images` meets its contract. The loop's invariant: laying the images of the records from the place on gives what laying all gives.
-- The measure is how many bytes are left. Assumes nothing.
use mathlib.Core.Path.{◌≡◌}
use Prim.Native.Nat.{◌-◌, ◌≤◌}
use lib.ListN.{length, take, drop}
use Rattle.fields.specs.Files.{file_of}
use Rattle.wal.specs.Records.{parse, records_in}
use Rattle.opening.specs.Opening.{replay}
use Rattle.replay.specs.Replay.{laid_from}
use Rattle.replay.proofs.lay_images.Given as goal

abbrev pub invariant-loop-at : goal.invariant-loop-at
invariant-loop-at l = (l.at ≤ l.end) × (length l.db ≡ length l.initial.db)
    × (replay 4096 (records_in (parse 4096 l.at (drop l.at (take l.end l.log))).found) (file_of l.db l.n) ≡ laid_from 4096 (file_of l.log l.end) (file_of l.initial.db l.len))

abbrev pub decreases-loop-at : goal.decreases-loop-at
decreases-loop-at l = l.end - l.at
