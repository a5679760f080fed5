-- `clog::slot_at` meets its contract: the slot's place in its byte is the remainder by 4. Assumes nothing.
use Rattle.clog.specs.Slots.{slot_of}
use Rattle.clog.proofs.FourSlots.{bits_small}
use Rattle.clog.proofs.slot_at.Goals as goal

pub returns : goal.returns
unfolding slot_of
returns c = (c.bits.ensures, rw c.bits.ensures (bits_small _ _))
