use mathlib.Core.Path.{refl}
use Rattle.words.specs.Words.{words_of}
use Rattle.words.proofs.put_head.Goals as goal

pub returns : goal.returns
unfolding words_of
returns c = refl
