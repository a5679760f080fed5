-- `xacts::has_slot` meets its contract. Assumes nothing.
use mathlib.Core.Path.{sym, ◌∙◌}
use native.Mathlib.Omega.{arith}
use Rattle.xacts.proofs.Slots.{found_here, found-later, found_nowhere}
use Rattle.xacts.proofs.has_slot.Goals as goal

pub returns-then-byte_has : goal.returns-then-byte_has
returns-then-byte_has c = let l = c.loop-b in sym (found_here _ l.left _ l.b-index (omega arith) (sym c.byte_has.ensures ∙ c.if-byte_has.true)) ∙ l.invariant

pub loop-b-preserved : goal.loop-b-preserved
loop-b-preserved c = let l = c.loop-b in rw c.saturating_sub-left.ensures (sym (found-later _ l.left _ l.b-index (omega arith) (sym c.byte_has.ensures ∙ c.if-byte_has.false)) ∙ l.invariant)

pub returns : goal.returns
returns c = let l = c.loop-b in sym (found_nowhere _ l.left _ l.b-index (omega arith)) ∙ l.invariant
