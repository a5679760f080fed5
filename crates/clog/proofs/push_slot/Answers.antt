-- `clog::push_slot` meets its contract: no entry for a slot that is 0, else one after the last. Assumes nothing.
use mathlib.Core.Path.{◌≡◌}
use mathlib.Core.Bool.{false}
use native.Mathlib.Omega.{arith}
use borrow.Author.Tests.{eq-eqb, ne_eqb}
use lib.Dec.{eqb}
use Rattle.clog.specs.Slots.{entry_of}
use Rattle.clog.specs.Inside.{push_all}
use Rattle.clog.proofs.push_slot.Goals as goal

pub returns-then-c-eq0 : goal.returns-then-c-eq0
unfolding entry_of push_all
returns-then-c-eq0 c = rw (eq-eqb _ 0 c.if-c-eq0.true)

pub bounds-a-n : goal.bounds-a-n
unfolding entry_of
bounds-a-n c =
    let e : eqb c.args.c 0 ≡ false = ne_eqb _ 0 c.if-c-eq0.false in
    omega (arith, rw e at c.requires)

pub returns : goal.returns
unfolding entry_of push_all
returns c = rw (ne_eqb _ 0 c.if-c-eq0.false, ← c.loaded_status.ensures)
