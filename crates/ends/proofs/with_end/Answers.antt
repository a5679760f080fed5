-- `ends::with_end` meets its contract. Assumes nothing.
use mathlib.Core.Path.{refl}
use Rattle.ends.specs.Inside.{ended_head}
use Rattle.ends.proofs.with_end.Goals as goal

pub returns : goal.returns
unfolding ended_head
returns c = refl
