-- `frames::find` meets its contract. The loop's invariant: what was passed does not hold the page, so that it stands in what is left or nowhere.
-- Assumes nothing.
use mathlib.Core.Path.{sym, ◌∙◌}
use native.Mathlib.Omega.{arith}
use Rattle.frames.proofs.Turns.{in-past, found-here, found-on, found_at, found_none}
use Rattle.frames.proofs.find.Goals as goal

pub returns-then-x-page : goal.returns-then-x-page
returns-then-x-page c =
    let l = c.loop-slot in
    let h = found-here _ l.slot c.args.page c.if-x-page.true c.loop-slot-test.true in
    rw (← c.held-x-items.ensures.list) (sym (found_at c.args.page _ l.slot (l.invariant.0 ∙ h.0) (omega (arith, l.invariant.1, h.1))))

pub loop-slot-preserved : goal.loop-slot-preserved
loop-slot-preserved c =
    let l = c.loop-slot in
    let h = found-on _ l.slot c.args.page c.if-x-page.false c.loop-slot-test.true in
    (l.invariant.0 ∙ h.0, omega (arith, l.invariant.1, h.1))

pub returns : goal.returns
returns c =
    let l = c.loop-slot in
    rw (← c.held-x-items.ensures.list) (sym (found_none c.args.page _ (l.invariant.0 ∙ in-past _ l.slot c.args.page c.loop-slot-test.false)))
