-- `ends::with_mark` meets its contract. Assumes nothing.
use mathlib.Core.Path.{refl}
use Rattle.ends.specs.Inside.{marked_head}
use Rattle.ends.proofs.with_mark.Goals as goal

pub returns : goal.returns
unfolding marked_head
returns c = refl
