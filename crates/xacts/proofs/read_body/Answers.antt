-- `xacts::read_body` meets its contract. Assumes nothing.
use mathlib.Core.Path.{refl, sym, ◌∙◌}
use native.Mathlib.Omega.{arith}
use lib.ListN.{length-set}
use Rattle.xacts.specs.Pages.{read_as, body_from}
use Rattle.xacts.proofs.Remade.{remade-turn, remade-end}
use Rattle.xacts.proofs.read_body.Goals as goal

pub loop-i-init : goal.loop-i-init
loop-i-init c = (refl, refl)

pub loop-i-preserved : goal.loop-i-preserved
loop-i-preserved c = let l = c.loop-i in (simp length-set l.invariant.0, remade-turn (λ t c. read_as c) _ l.out l.i _ (omega arith) c.read_byte.ensures ∙ l.invariant.1)

pub returns : goal.returns
unfolding body_from
returns c = let l = c.loop-i in sym (remade-end (λ t c. read_as c) _ l.out l.i (omega arith)) ∙ l.invariant.1
