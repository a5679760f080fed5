-- `apart::any_bad` meets its contract. The loop's invariant: what was found, or is found in what is left. Assumes nothing.
use mathlib.Core.Path.{sym, ◌∙◌}
use native.Mathlib.Omega.{arith}
use Rattle.apart.proofs.Laws.{bad-turn, bad-end}
use Rattle.apart.proofs.any_bad.Goals as goal

pub loop-page-preserved : goal.loop-page-preserved
loop-page-preserved c = let l = c.loop-page in bad-turn _ l.page-index l.bad (omega arith) ∙ l.invariant

pub returns : goal.returns
returns c = let l = c.loop-page in sym (bad-end _ l.page-index l.bad (omega arith)) ∙ l.invariant
