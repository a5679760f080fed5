-- `apart::is_in` meets its contract. The loop's invariant: what was found, or is found in what is left. Assumes nothing.
use mathlib.Core.Path.{◌≡◌}
use mathlib.Core.Bool.{◌||◌}
use lib.ListN.{take, drop}
use Rattle.frames.specs.Pages.{is_in}
use Rattle.apart.proofs.is_in.Given as goal

abbrev pub invariant-loop-i : goal.invariant-loop-i
invariant-loop-i l = (l.found || is_in l.page (drop l.i (take l.n l.pages))) ≡ is_in l.page (drop l.from (take l.n l.pages))
