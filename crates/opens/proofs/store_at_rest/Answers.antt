-- `opens::store_at_rest` meets its contract. Assumes nothing.
use Rattle.opens.specs.Inside.{store_at_rest}
use Rattle.opens.proofs.store_at_rest.Goals as goal

pub returns : goal.returns
unfolding store_at_rest
returns c = rw (c.no_frames.ensures, c.no_pages.ensures)
