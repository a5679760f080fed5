-- `ready::meta_call` meets its contract. Assumes nothing.
use mathlib.Core.Path.{refl}
use Rattle.ready.specs.Ready.{with_meta}
use Rattle.ready.proofs.meta_call.Goals as goal

pub returns : goal.returns
unfolding with_meta
returns c = refl
