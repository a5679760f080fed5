-- `apart::is_rising` meets its contract. The loop's invariant: what was found, and the order of what is left. Assumes nothing.
use mathlib.Core.Path.{◌≡◌, sym, ◌∙◌}
use native.Mathlib.Omega.{arith}
use borrow.Author.Rules.{rules}
use lib.ListN.{length}
use Rattle.apart.proofs.Laws.{rising-turn, rising-end}
use Rattle.apart.proofs.is_rising.Goals as goal

pub loop-i-preserved : goal.loop-i-preserved
loop-i-preserved c =
    let l = c.loop-i in
    let a = c.args in
    let len : length a.pages.now ≡ 64 = search rules in
    rising-turn a.pages.now a.n l.i l.good (omega arith) (omega arith) (omega arith) ∙ l.invariant

pub returns : goal.returns
returns c = let l = c.loop-i in sym (rising-end c.args.pages.now c.args.n l.i l.good (omega arith)) ∙ l.invariant
