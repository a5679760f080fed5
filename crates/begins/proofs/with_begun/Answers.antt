-- `begins::with_begun` meets its contract. Assumes nothing.
use mathlib.Core.Path.{refl}
use Rattle.begins.specs.Inside.{begun_head}
use Rattle.begins.proofs.with_begun.Goals as goal

pub returns : goal.returns
unfolding begun_head
returns c = refl
