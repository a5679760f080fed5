-- `keyon::head_at` meets its contract. Assumes nothing.
use borrow.Author.Rules.{rules}
use Rattle.keyon.specs.Inside.{head_at}
use Rattle.keyon.proofs.head_at.Goals as goal

pub returns : goal.returns
unfolding head_at
returns c = search rules
