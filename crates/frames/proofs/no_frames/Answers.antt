-- `frames::no_frames` meets its contract: what it makes is the definition. Assumes nothing.
use mathlib.Core.Path.{refl}
use Rattle.frames.specs.Pages.{empty_frames}
use Rattle.frames.proofs.no_frames.Goals as goal

pub returns : goal.returns
unfolding empty_frames
returns c = refl
