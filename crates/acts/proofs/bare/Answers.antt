-- `acts::bare` meets its contract. Assumes nothing.
use Rattle.acts.specs.Made.{bare_made}
use Rattle.acts.proofs.bare.Goals as goal

pub returns : goal.returns
unfolding bare_made
returns c = rw (c.no_plan.ensures, c.none.ensures)
