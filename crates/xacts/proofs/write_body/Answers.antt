-- `xacts::write_body` meets its contract. Assumes nothing.
use mathlib.Core.Path.{refl, sym, ◌∙◌}
use native.Mathlib.Omega.{arith}
use lib.ListN.{length-set}
use Rattle.xacts.specs.Pages.{written_as}
use Rattle.xacts.proofs.Remade.{remade-turn, remade-end}
use Rattle.xacts.proofs.write_body.Goals as goal

pub loop-i-init : goal.loop-i-init
loop-i-init c = (refl, refl)

pub loop-i-preserved : goal.loop-i-preserved
loop-i-preserved c = let l = c.loop-i in (simp length-set l.invariant.0, remade-turn (written_as c.args.mark) _ l.out l.i _ (omega arith) c.written_byte.ensures ∙ l.invariant.1)

pub returns : goal.returns
returns c = let l = c.loop-i in sym (remade-end (written_as c.args.mark) _ l.out l.i (omega arith)) ∙ l.invariant.1
