-- `ends::raised` meets its contract: after turn i the count is past the first i pages. Assumes nothing.
use mathlib.Core.Path.{◌≡◌}
use Rattle.settle.specs.Inside.{raised_to}
use Rattle.ends.proofs.raised.Given as goal

abbrev pub invariant-loop-page : goal.invariant-loop-page
invariant-loop-page l = l.n ≡ raised_to l.fn.x l.page-index l.pages
