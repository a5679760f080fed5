-- `apart::any_bad` meets its contract. The loop's invariant: what was found, or is found in what is left. Assumes nothing.
use mathlib.Core.Path.{◌≡◌}
use mathlib.Core.Bool.{◌||◌}
use lib.ListN.{take, drop}
use Rattle.frames.specs.Pages.{any_bad}
use Rattle.apart.proofs.any_bad.Given as goal

abbrev pub invariant-loop-page : goal.invariant-loop-page
invariant-loop-page l = (l.bad || any_bad (drop l.page-index (take l.n l.pages))) ≡ any_bad (take l.n l.pages)
