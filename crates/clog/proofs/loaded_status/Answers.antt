-- `clog::loaded_status` meets its contract: the test on 2 is the definition's. Assumes nothing.
use borrow.Author.Tests.{eq-eqb, ne_eqb}
use Rattle.clog.specs.Slots.{loaded_status}
use native.Mathlib.Omega.{arith}
use Rattle.clog.proofs.loaded_status.Goals as goal

pub returns-in-2 : goal.returns-in-2
unfolding loaded_status
returns-in-2 c = rw (eq-eqb _ 2 c.in-2.is)

pub returns-in_default : goal.returns-in_default
unfolding loaded_status
returns-in_default c = rw (ne_eqb c.args.c 2 (λ e. omega arith))
