-- `sweeps::settle` meets its contract. Assumes nothing.
use native.Mathlib.Omega.{arith}
use borrow.Author.Rules.{rules}
use Rattle.sweeps.proofs.Laws.{settled-long, settled-short}
use Rattle.sweeps.proofs.settle.Goals as goal

pub returns-then-n-ge-HEADER : goal.returns-then-n-ge-HEADER
returns-then-n-ge-HEADER c = settled-long c.args.clog.now c.args.len c.min-n.result (search rules) _ c.settle_in.ensures

pub returns-else-n-ge-HEADER : goal.returns-else-n-ge-HEADER
returns-else-n-ge-HEADER c = settled-short c.args.clog.now c.args.len c.min-n.result (search rules) (omega arith)
