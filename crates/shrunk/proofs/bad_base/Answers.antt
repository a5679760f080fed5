-- `shrunk::bad_base` meets its contract. Assumes nothing.
use Prim.Native.Nat.{◌%◌}
use borrow.Author.Tests.{eq-eqb, ne_eqb}
use Rattle.shrunk.specs.Inside.{bad_base}
use Rattle.shrunk.proofs.bad_base.Goals as goal

pub returns-then-base-ne0 : goal.returns-then-base-ne0
unfolding bad_base
returns-then-base-ne0 c = rw (ne_eqb (c.args.base % 4) 0 c.if-base-ne0.true)

pub returns-else-base-ne0 : goal.returns-else-base-ne0
unfolding bad_base
returns-else-base-ne0 c = rw (eq-eqb (c.args.base % 4) 0 c.if-base-ne0.false)
