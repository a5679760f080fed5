-- `fields::copy` meets its contract: all of the source fits, or as much as covers the destination. Assumes nothing.
use native.Mathlib.Omega.{arith}
use Rattle.fields.proofs.Stored.{copied-in, copied-over}
use Rattle.fields.proofs.copy.Goals as goal

pub returns-then-k-n : goal.returns-then-k-n
returns-then-k-n g c = copied-in c.args.dst.now c.args.src.now _ (omega arith) c.copy_all.ensures

pub returns-else-k-n : goal.returns-else-k-n
returns-else-k-n g c = copied-over c.args.dst.now c.args.src.now _ (omega arith) c.copy_all-else-k-n.ensures
