-- `fields::arrays::shift_in` meets its contract: what is left to move, moved, gives what was asked for. Assumes nothing.
use mathlib.Core.Path.{sym, ◌∙◌}
use native.Mathlib.Omega.{arith}
use Rattle.fields.proofs.Stored.{shift-start, shift-turn, shift-end}
use Rattle.fields.proofs.arrays.shift_in.Goals as goal

pub loop-i-init : goal.loop-i-init
loop-i-init g c = shift-start c.args.a.now c.args.x

pub loop-i-preserved : goal.loop-i-preserved
loop-i-preserved g c = let l = c.loop-i in shift-turn l.a l.i l.carried c.index-a-i.result (omega arith) c.index-a-i.is ∙ l.invariant

pub returns : goal.returns
returns g c = let l = c.loop-i in sym (shift-end l.a l.i l.carried (omega arith)) ∙ l.invariant
