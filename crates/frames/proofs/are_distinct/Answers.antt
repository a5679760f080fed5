-- `frames::are_distinct` meets its contract. The loop's invariant: what is left of the pages gives the answer. Assumes nothing.
use mathlib.Core.Path.{sym, ◌∙◌}
use Rattle.frames.proofs.Turns.{distinct-step, distinct-past}
use Rattle.frames.proofs.are_distinct.Goals as goal

pub returns-then-is_in : goal.returns-then-is_in
returns-then-is_in c =
    let l = c.loop-i in
    sym (distinct-step c.args.pages.now l.i _ (sym c.is_in.ensures ∙ c.if-is_in.true) c.loop-i-test.true) ∙ l.invariant

pub loop-i-preserved : goal.loop-i-preserved
loop-i-preserved c =
    let l = c.loop-i in
    sym (distinct-step c.args.pages.now l.i _ (sym c.is_in.ensures ∙ c.if-is_in.false) c.loop-i-test.true) ∙ l.invariant

pub returns : goal.returns
returns c =
    let l = c.loop-i in
    sym (distinct-past c.args.pages.now l.i c.loop-i-test.false) ∙ l.invariant
