-- `picks::pick` meets its contract: after turn i the first i touched pages are dealt with. Assumes nothing.
use mathlib.Core.Path.{◌≡◌}
use lib.ListN.{take}
use Rattle.frames.specs.Pages.{resident_of}
use Rattle.picks.specs.Picks.{seats_of, chosen, picked_of}
use Rattle.picks.proofs.pick.Given as goal

abbrev pub invariant-loop-page : goal.invariant-loop-page
invariant-loop-page l = l.p ≡ picked_of 64 (seats_of (resident_of l.f) (chosen l.which l.list (resident_of l.f) (take l.page-index l.page-items)))
