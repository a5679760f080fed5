-- `clog::bad_length` meets its contract: the test of any file decides, and then the least length. Assumes nothing.
use mathlib.Core.Path.{sym, ◌∙◌}
use Rattle.clog.specs.Calls.{unfit}
use Rattle.clog.proofs.bad_length.Goals as goal

pub returns-then-is_unfit : goal.returns-then-is_unfit
unfolding unfit
returns-then-is_unfit c = c.if-is_unfit.true ∙ rw (sym c.is_unfit.ensures ∙ c.if-is_unfit.true)

pub returns-else-is_unfit : goal.returns-else-is_unfit
unfolding unfit
returns-else-is_unfit c = rw (sym c.is_unfit.ensures ∙ c.if-is_unfit.false)
