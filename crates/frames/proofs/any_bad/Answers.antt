-- `frames::any_bad` meets its contract. The loop's invariant: what is left of the pages gives the answer. Assumes nothing.
use mathlib.Core.Path.{sym, ◌∙◌}
use borrow.Author.Tests.{le-leb, lt-leb}
use Rattle.frames.proofs.Turns.{bad-step, bad-past}
use Rattle.frames.proofs.any_bad.Goals as goal

pub returns-then-page-ge-NO_PAGE : goal.returns-then-page-ge-NO_PAGE
returns-then-page-ge-NO_PAGE c =
    let l = c.loop-page in
    sym (bad-step c.args.pages.now l.page-index _ (le-leb 4294967295 _ c.if-page-ge-NO_PAGE.true) c.loop-page-test.true) ∙ l.invariant

pub loop-page-preserved : goal.loop-page-preserved
loop-page-preserved c =
    let l = c.loop-page in
    sym (bad-step c.args.pages.now l.page-index _ (lt-leb 4294967295 _ c.if-page-ge-NO_PAGE.false) c.loop-page-test.true) ∙ l.invariant

pub returns : goal.returns
returns c =
    let l = c.loop-page in
    sym (bad-past c.args.pages.now l.page-index c.loop-page-test.false) ∙ l.invariant
