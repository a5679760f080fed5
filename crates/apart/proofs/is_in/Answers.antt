-- `apart::is_in` meets its contract. The loop's invariant: what was found, or is found in what is left. Assumes nothing.
use mathlib.Core.Path.{◌≡◌, refl, sym, ◌∙◌}
use native.Mathlib.Omega.{arith}
use borrow.Author.Rules.{rules}
use lib.ListN.{length}
use Rattle.fields.proofs.Tests.{or-false}
use Rattle.frames.proofs.Turns.{in-turn, in_end}
use Rattle.apart.proofs.is_in.Goals as goal

pub loop-i-preserved : goal.loop-i-preserved
loop-i-preserved c =
    let l = c.loop-i in
    let a = c.args in
    let len : length a.pages.now ≡ 64 = search rules in
    in-turn a.pages.now a.n l.i a.page l.found _ refl (omega arith) (omega arith) ∙ l.invariant

pub returns : goal.returns
returns c =
    let l = c.loop-i in
    let a = c.args in
    let len : length a.pages.now ≡ 64 = search rules in
    sym (or-false l.found) ∙ rw (in_end a.pages.now a.n l.i a.page (omega arith)) at l.invariant
