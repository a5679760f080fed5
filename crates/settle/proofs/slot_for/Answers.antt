-- `settle::slot_for` meets its contract: the page is found, or it is not resident. Assumes nothing.
use mathlib.Core.Path.{◌∙◌}
use Rattle.settle.proofs.Sealed.{slot-out}
use Rattle.settle.proofs.slot_for.Goals as goal

pub returns : goal.returns
returns c = c.unwrap_or.ensures ∙ slot-out c.args.page c.args.f c.find.result c.find.ensures
