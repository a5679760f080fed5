-- `frames::no_pages` meets its contract: what it makes is the definition. Assumes nothing.
use mathlib.Core.Path.{refl}
use Rattle.frames.specs.Pages.{empty_touched}
use Rattle.frames.proofs.no_pages.Goals as goal

pub returns : goal.returns
unfolding empty_touched
returns c = refl
