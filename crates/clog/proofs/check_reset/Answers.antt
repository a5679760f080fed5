-- `clog::check_reset` meets its contract: each test that fails decides. Assumes nothing.
use mathlib.Core.Path.{sym, ◌∙◌}
use borrow.Author.Tests.{lt-ltb, le-ltb}
use Rattle.clog.specs.Calls.{reset_no}
use Rattle.clog.proofs.check_reset.Goals as goal

pub returns-then-bad_length : goal.returns-then-bad_length
unfolding reset_no
returns-then-bad_length c = rw (sym c.bad_length.ensures ∙ c.if-bad_length.true)

pub returns-then-size-lt-HEADER : goal.returns-then-size-lt-HEADER
unfolding reset_no
returns-then-size-lt-HEADER c = rw (sym c.bad_length.ensures ∙ c.if-bad_length.false, lt-ltb _ _ c.if-size-lt-HEADER.true)

pub returns : goal.returns
unfolding reset_no
returns c = rw (sym c.bad_length.ensures ∙ c.if-bad_length.false, le-ltb _ _ c.if-size-lt-HEADER.false)
