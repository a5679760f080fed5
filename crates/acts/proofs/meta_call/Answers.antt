-- `acts::meta_call` meets its contract. Assumes nothing.
use mathlib.Core.Path.{refl}
use Rattle.acts.specs.Made.{meta_made}
use Rattle.acts.proofs.meta_call.Goals as goal

pub returns : goal.returns
unfolding meta_made
returns c = refl
