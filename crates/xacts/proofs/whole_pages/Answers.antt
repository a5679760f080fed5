-- `xacts::whole_pages` meets its contract. Assumes nothing.
use native.Mathlib.Omega.{arith}
use Rattle.xacts.specs.Pages.{whole_pages}
use Rattle.xacts.proofs.whole_pages.Goals as goal

pub returns : goal.returns
unfolding whole_pages
returns c = omega (arith, c.next_multiple_of.ensures.value)
