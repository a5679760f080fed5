-- `settle::with_mark` meets its contract. Assumes nothing.
use mathlib.Core.Path.{refl}
use Rattle.settle.specs.Inside.{marked_store}
use Rattle.settle.proofs.with_mark.Goals as goal

pub returns : goal.returns
unfolding marked_store
returns c = refl
