-- `clog::settle` meets its contract. The loop's invariant: settling what is left gives what was asked for. Assumes nothing.
use mathlib.Core.Path.{sym, ◌∙◌}
use native.Mathlib.Omega.{arith}
use Rattle.clog.proofs.Ways.{settle-turn, settle-end, sets-whole}
use lib.ListN.{length-map}
use Rattle.clog.proofs.settle.Goals as goal

pub loop-b-init : goal.loop-b-init
loop-b-init c = sets-whole _ _ (length-map _ _)

pub loop-b-preserved : goal.loop-b-preserved
loop-b-preserved c = let l = c.loop-b in settle-turn l.body l.b-index _ (omega arith) c.settled_byte.ensures ∙ l.invariant

pub returns : goal.returns
returns c = let l = c.loop-b in sym (settle-end l.body l.b-index (omega arith)) ∙ l.invariant
