-- `frames::is_in` meets its contract. The loop's invariant: what was found, or is found in what is left of the pages. Assumes nothing.
use mathlib.Core.Path.{refl, sym, ap, ◌∙◌}
use Rattle.fields.proofs.Tests.{or-false}
use Rattle.frames.specs.Pages.{is_in}
use Rattle.frames.proofs.Turns.{in-step, in-past, lent-rest}
use Rattle.frames.proofs.is_in.Goals as goal

pub loop-x-preserved : goal.loop-x-preserved
loop-x-preserved c =
    let l = c.loop-x in
    in-step _ l.x-index c.args.page l.found _ refl c.loop-x-test.true ∙ l.invariant

pub returns : goal.returns
returns c =
    let l = c.loop-x in
    sym (or-false l.found) ∙ rw (in-past _ l.x-index c.args.page c.loop-x-test.false) at l.invariant ∙ ap (is_in c.args.page) (lent-rest c.args.pages.now c.args.from _ c.min.ensures)
