-- `xacts::read_as` meets its contract: its tests are the definition's. Assumes nothing.
use native.Mathlib.Omega.{arith}
use borrow.Author.Tests.{eq-eqb, ne_eqb}
use Rattle.xacts.specs.Pages.{read_as}
use Rattle.xacts.proofs.read_as.Goals as goal

pub returns-in-1 : goal.returns-in-1
unfolding read_as
returns-in-1 c = (rw (eq-eqb _ 1 c.in-1.is), omega arith)

pub returns-in-2 : goal.returns-in-2
unfolding read_as
returns-in-2 c = (rw (ne_eqb c.args.c 1 (λ e. omega arith), eq-eqb _ 2 c.in-2.is), omega arith)

pub returns-in_default : goal.returns-in_default
unfolding read_as
returns-in_default c = (rw (ne_eqb c.args.c 1 (λ e. omega arith), ne_eqb c.args.c 2 (λ e. omega arith)), omega arith)
