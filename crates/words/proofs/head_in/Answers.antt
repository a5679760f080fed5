use mathlib.Core.Path.{refl}
use Rattle.words.specs.Words.{head_in}
use Rattle.words.proofs.head_in.Goals as goal

pub returns : goal.returns
unfolding head_in
returns c = refl
