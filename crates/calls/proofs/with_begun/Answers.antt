-- `calls::with_begun` meets its contract. Assumes nothing.
use mathlib.Core.Path.{refl}
use Rattle.calls.specs.Inside.{begun_store}
use Rattle.calls.proofs.with_begun.Goals as goal

pub returns : goal.returns
unfolding begun_store
returns c = refl
