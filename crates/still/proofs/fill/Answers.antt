-- `still::fill` meets its contract: nothing where the page was there, else the file's page in its frame. Assumes nothing.
use Rattle.still.proofs.fill.Goals as goal

pub returns : goal.returns
returns c = rw c.if-there.false c.fill_frame.ensures
