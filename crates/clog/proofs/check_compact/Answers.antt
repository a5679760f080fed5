-- `clog::check_compact` meets its contract: its one test decides. Assumes nothing.
use mathlib.Core.Path.{sym, ◌∙◌}
use Rattle.clog.specs.Calls.{compact_no}
use Rattle.clog.proofs.check_compact.Goals as goal

pub returns-then-bad_length : goal.returns-then-bad_length
unfolding compact_no
returns-then-bad_length c = rw (sym c.bad_length.ensures ∙ c.if-bad_length.true)

pub returns : goal.returns
unfolding compact_no
returns c = rw (sym c.bad_length.ensures ∙ c.if-bad_length.false)
