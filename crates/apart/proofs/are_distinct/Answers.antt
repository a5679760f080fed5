-- `apart::are_distinct` meets its contract: pages that ascend are distinct, others are compared pair by pair. Assumes nothing.
use mathlib.Core.Path.{◌≡◌, sym, ◌∙◌}
use native.Mathlib.Omega.{arith}
use borrow.Author.Rules.{rules}
use lib.ListN.{length, take}
use Rattle.frames.proofs.Turns.{distinct-hit, distinct-on, distinct-end}
use Rattle.apart.proofs.Laws.{rising-distinct}
use Rattle.apart.proofs.are_distinct.Goals as goal

pub returns-then-is_rising : goal.returns-then-is_rising
returns-then-is_rising c =
    let a = c.args in
    sym (rising-distinct (take a.n a.pages.now) (sym c.is_rising.ensures ∙ c.if-is_rising.true))

pub returns-then-is_in : goal.returns-then-is_in
returns-then-is_in c =
    let a = c.args in
    let l = c.loop-i in
    let len : length a.pages.now ≡ 64 = search rules in
    sym (distinct-hit a.pages.now a.n l.i (sym c.is_in.ensures ∙ c.if-is_in.true) (omega arith) (omega arith)) ∙ l.invariant

pub loop-i-preserved : goal.loop-i-preserved
loop-i-preserved c =
    let a = c.args in
    let l = c.loop-i in
    let len : length a.pages.now ≡ 64 = search rules in
    sym (distinct-on a.pages.now a.n l.i (sym c.is_in.ensures ∙ c.if-is_in.false) (omega arith) (omega arith)) ∙ l.invariant

pub returns : goal.returns
returns c =
    let a = c.args in
    let l = c.loop-i in
    sym (distinct-end a.pages.now a.n l.i (omega arith)) ∙ l.invariant
