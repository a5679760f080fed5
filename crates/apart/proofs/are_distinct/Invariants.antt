-- `apart::are_distinct` meets its contract: pages that ascend are distinct, others are compared pair by pair. Assumes nothing.
use mathlib.Core.Path.{◌≡◌}
use lib.ListN.{take, drop}
use Rattle.frames.specs.Pages.{distinct}
use Rattle.apart.proofs.are_distinct.Given as goal

abbrev pub invariant-loop-i : goal.invariant-loop-i
invariant-loop-i l = distinct (drop l.i (take l.n l.pages)) ≡ distinct (take l.n l.pages)
