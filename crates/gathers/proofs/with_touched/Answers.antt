-- `gathers::with_touched` meets its contract: never resident, or looked up. Assumes nothing.
use mathlib.Core.Path.{◌∙◌}
use lib.ListN.{take}
use Rattle.picks.specs.Picks.{wants}
use Rattle.gathers.proofs.Laws.{far-out}
use Rattle.gathers.proofs.with_touched.Goals as goal

pub returns-then-x-gt-LAST : goal.returns-then-x-gt-LAST
returns-then-x-gt-LAST c =
    let a = c.args in
    far-out (wants a.which a.list.now a.x) a.x (take a.f a.resident.now) a.p c.is_near-near.ensures

pub returns : goal.returns
returns c = c.with_page.ensures ∙ rw (c.wanted-want.ensures, c.find-place.ensures)
