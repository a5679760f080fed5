-- `apart::is_rising` meets its contract. The loop's invariant: what was found, and the order of what is left. Assumes nothing.
use Prim.Native.Nat.{◌-◌}
use mathlib.Core.Path.{◌≡◌}
use mathlib.Core.Bool.{◌&&◌}
use lib.ListN.{take, drop}
use Rattle.frames.specs.Pages.{ascending}
use Rattle.apart.proofs.is_rising.Given as goal

abbrev pub invariant-loop-i : goal.invariant-loop-i
invariant-loop-i l = (l.good && ascending (drop (l.i - 1) (take l.n l.pages))) ≡ ascending (take l.n l.pages)
