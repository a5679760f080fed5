-- `seats::any_bad` meets its contract. The loop's invariant: what is left of the pages gives the answer. Assumes nothing.
use mathlib.Core.Path.{◌≡◌}
use lib.ListN.{drop}
use Rattle.frames.specs.Pages.{any_bad}
use Rattle.seats.proofs.any_bad.Given as goal

abbrev pub invariant-loop-page : goal.invariant-loop-page
invariant-loop-page l = any_bad (drop l.page-index l.pages) ≡ any_bad l.pages
