-- `fields::copy_all` meets its contract: what is left to store, stored, gives the source. Assumes nothing.
use mathlib.Core.Path.{sym, ◌∙◌}
use native.Mathlib.Omega.{arith}
use Rattle.fields.proofs.Stored.{copy-turn, copy-end, copy-all}
use Rattle.fields.proofs.copy_all.Goals as goal

pub loop-i-init : goal.loop-i-init
loop-i-init g c = copy-all c.args.dst.now c.args.src.now c.requires

pub loop-i-preserved : goal.loop-i-preserved
loop-i-preserved g c = let l = c.loop-i in copy-turn l.dst c.args.src.now l.i c.index-src-i.result (omega (arith, c.requires)) c.index-src-i.is ∙ l.invariant

pub returns : goal.returns
returns g c = let l = c.loop-i in sym (copy-end l.dst c.args.src.now l.i (omega (arith, c.requires))) ∙ l.invariant
