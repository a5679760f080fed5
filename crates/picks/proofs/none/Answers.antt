-- `picks::none` meets its contract. Assumes nothing.
use mathlib.Core.Path.{refl}
use Rattle.picks.specs.Picks.{picked_of}
use Rattle.picks.proofs.none.Goals as goal

pub returns : goal.returns
unfolding picked_of
returns c = refl
