-- `fields::is_unfit` meets its contract: both tests are those of `unfit`. Assumes nothing.
use Rattle.std.proofs.Common.{◌∙◌, sym}
use borrow.Author.Tests.{lt-ltb}
use Rattle.fields.proofs.FileLaws.{unfit-size, unfit-len}
use Rattle.fields.proofs.is_unfit.Goals as goal

pub returns-then-limit-size : goal.returns-then-limit-size
returns-then-limit-size c = lt-ltb _ _ c.if-limit-size.true ∙ sym (unfit-size _ _ _ c.if-limit-size.true)

pub returns-else-limit-size : goal.returns-else-limit-size
returns-else-limit-size c = unfit-len _ _ _ c.if-limit-size.false
