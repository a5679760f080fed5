-- `gathers::pick_in` meets its contract: after turn i the first i touched pages are dealt with. Assumes nothing.
use mathlib.Core.Path.{◌≡◌}
use Rattle.picks.specs.Picks.{picked_of}
use Rattle.gathers.specs.Gathered.{gathered}
use Rattle.gathers.proofs.pick_in.Given as goal

abbrev pub invariant-loop-page : goal.invariant-loop-page
invariant-loop-page l = l.p ≡ picked_of 64 (gathered l.which l.list l.page-items l.page-index l.resident l.f)
