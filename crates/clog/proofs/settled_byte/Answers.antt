-- `clog::settled_byte` meets its contract: the four slots settled and put together. Assumes nothing.
use Rattle.clog.proofs.FourSlots.{settled-made}
use Rattle.clog.proofs.settled_byte.Goals as goal

pub returns : goal.returns
returns c =
    settled-made _ _ _ _ _ c.settled_code-c0.ensures.0 c.settled_code-c1.ensures.0 c.settled_code-c2.ensures.0 c.settled_code-c3.ensures.0
