-- `frames::is_in` meets its contract. The loop's invariant: what was found, or is found in what is left of the pages. Assumes nothing.
use mathlib.Core.Path.{◌≡◌}
use mathlib.Core.Bool.{◌||◌}
use lib.ListN.{drop}
use Rattle.frames.specs.Pages.{is_in}
use Rattle.frames.proofs.is_in.Given as goal

abbrev pub invariant-loop-x : goal.invariant-loop-x
invariant-loop-x l = (l.found || is_in l.page (drop l.x-index l.x-items)) ≡ is_in l.page l.x-items
