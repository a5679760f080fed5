-- `clog::span_below` meets its contract: whole bytes after the header, and one more where slots are left over. Assumes nothing.
use native.Mathlib.Omega.{arith}
use Rattle.clog.specs.Slots.{span_below}
use Rattle.clog.proofs.span_below.Goals as goal

pub returns : goal.returns
unfolding span_below
returns c = omega (arith, c.min.ensures, c.div_ceil.ensures, c.saturating_sub.ensures)
