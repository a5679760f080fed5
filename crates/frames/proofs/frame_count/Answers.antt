-- `frames::frame_count` meets its contract. Assumes nothing.
use borrow.Author.Rules.{rules}
use Rattle.frames.specs.Pages.{frame_count}
use Rattle.frames.proofs.frame_count.Goals as goal

pub returns : goal.returns
unfolding frame_count
returns c = search rules
