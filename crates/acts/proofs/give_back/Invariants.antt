-- `acts::give_back` meets its contract: after turn i the first i pages have their bytes back. Assumes nothing.
use mathlib.Core.Path.{◌≡◌}
use lib.ListN.{length}
use Rattle.fields.specs.Files.{file_of}
use Rattle.ready.specs.Ready.{refill_to}
use Rattle.acts.proofs.give_back.Given as goal

abbrev pub invariant-loop-i : goal.invariant-loop-i
invariant-loop-i l = (length l.frames ≡ length l.initial.frames) × (l.frames ≡ refill_to 4096 (file_of l.db l.len) l.x l.i l.initial.frames)
