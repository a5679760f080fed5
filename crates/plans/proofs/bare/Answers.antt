-- `plans::bare` meets its contract. Assumes nothing.
use mathlib.Core.Path.{refl}
use Rattle.picks.specs.Picks.{picked_of}
use Rattle.plans.specs.Planned.{plan_of}
use Rattle.plans.proofs.bare.Goals as goal

pub returns : goal.returns
unfolding plan_of picked_of
returns c = refl
