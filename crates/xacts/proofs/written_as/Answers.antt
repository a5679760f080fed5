-- `xacts::written_as` meets its contract: its tests are the definition's. Assumes nothing.
use native.Mathlib.Omega.{arith}
use borrow.Author.Tests.{lt-ltb, le-ltb, eq-eqb, ne_eqb}
use Rattle.xacts.specs.Pages.{written_as}
use Rattle.xacts.proofs.written_as.Goals as goal

pub returns-then-id-mark : goal.returns-then-id-mark
unfolding written_as
returns-then-id-mark c = (rw (lt-ltb _ _ c.if-id-mark.true), omega arith)

pub returns-in-2 : goal.returns-in-2
unfolding written_as
returns-in-2 c = (rw (le-ltb _ _ c.if-id-mark.false, eq-eqb _ 2 c.in-2.is), omega arith)

pub returns-in-3 : goal.returns-in-3
unfolding written_as
returns-in-3 c = (rw (le-ltb _ _ c.if-id-mark.false, ne_eqb c.args.c 2 (λ e. omega arith), eq-eqb _ 3 c.in-3.is), omega arith)

pub returns-in_default : goal.returns-in_default
unfolding written_as
returns-in_default c = (rw (le-ltb _ _ c.if-id-mark.false, ne_eqb c.args.c 2 (λ e. omega arith), ne_eqb c.args.c 3 (λ e. omega arith)), omega arith)
