-- `settle::with_end` meets its contract. Assumes nothing.
use mathlib.Core.Path.{refl}
use Rattle.settle.specs.Inside.{ended_store}
use Rattle.settle.proofs.with_end.Goals as goal

pub returns : goal.returns
unfolding ended_store
returns c = refl
