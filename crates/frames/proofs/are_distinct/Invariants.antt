-- `frames::are_distinct` meets its contract. The loop's invariant: what is left of the pages gives the answer. Assumes nothing.
use mathlib.Core.Path.{◌≡◌}
use lib.ListN.{drop}
use Rattle.frames.specs.Pages.{distinct}
use Rattle.frames.proofs.are_distinct.Given as goal

abbrev pub invariant-loop-i : goal.invariant-loop-i
invariant-loop-i l = distinct (drop l.i l.pages) ≡ distinct l.pages
