-- `xacts::byte_has` meets its contract: its tests are those of the four slots, the highest first. Assumes nothing.
use Rattle.std.proofs.Common.{arith}
use Rattle.std.proofs.lemmas.Bool.Decides.{nat_tests}
use Rattle.xacts.proofs.Slots.{four-tests}
use Rattle.xacts.proofs.byte_has.Goals as goal

pub returns-then-b-c-3 : goal.returns-then-b-c-3
returns-then-b-c-3 c = rw (four-tests c.args.c c.args.w c.args.b) (grind (arith, nat_tests))

pub returns-then-w-eq0 : goal.returns-then-w-eq0
returns-then-w-eq0 c = rw (four-tests c.args.c c.args.w c.args.b) (grind (arith, nat_tests))

pub returns-else-w-eq0 : goal.returns-else-w-eq0
returns-else-w-eq0 c = rw (four-tests c.args.c c.args.w c.args.b) (grind (arith, nat_tests))
