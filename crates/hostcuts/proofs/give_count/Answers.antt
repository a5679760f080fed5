-- `hostcuts::give_count` meets its contract: the number of stores. Assumes nothing.
use Rattle.hostcuts.proofs.Laws.{count-values}
use Rattle.hostcuts.proofs.give_count.Goals as goal

pub returns : goal.returns
returns c = rw (c.give.ensures, c.number_of.ensures, c.unwrap_or.ensures) (count-values c.args.r)
