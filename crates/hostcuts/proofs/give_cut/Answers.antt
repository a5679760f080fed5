-- `hostcuts::give_cut` meets its contract: the three lengths. Assumes nothing.
use Rattle.hostcuts.proofs.Laws.{cut-values}
use Rattle.hostcuts.proofs.give_cut.Goals as goal

pub returns : goal.returns
returns c = rw (c.give.ensures, c.number_of.ensures, c.unwrap_or-n.ensures) (cut-values c.args.before c.args.r)
