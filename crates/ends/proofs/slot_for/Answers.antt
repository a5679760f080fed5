-- `ends::slot_for` meets its contract: the page is found, or it is not resident. Assumes nothing.
use mathlib.Core.Path.{◌∙◌}
use Rattle.seats.specs.Seats.{frames_in}
use Rattle.settle.proofs.Sealed.{slot-out}
use Rattle.ends.proofs.slot_for.Goals as goal

pub returns : goal.returns
returns c =
    let a = c.args in
    c.unwrap_or.ensures ∙ slot-out a.page (frames_in a.resident.now a.n) c.find.result c.find.ensures
