-- `clog::compact_in` meets its contract: a law of proofs/Ways.antt for each way out. Assumes nothing.
use mathlib.Core.Path.{refl, ◌∙◌}
use native.Mathlib.Omega.{arith}
use Rattle.clog.proofs.Refusals.{compact-fits}
use Rattle.clog.proofs.Ways.{handed-on, compacted-no, compacted-done}
use Rattle.clog.proofs.compact_in.Goals as goal

pub returns-in_err-check_compact : goal.returns-in_err-check_compact
returns-in_err-check_compact c = let a = c.args in rw (handed-on _ _ c.from_residual.ensures.1) (compacted-no _ _ a.h a.base a.below.0 _ c.in_err-check_compact.ensures)

pub returns : goal.returns
returns c = let a = c.args in compacted-done a.clog.now a.len a.h a.base a.below.0 c.clear.new.body _ c.in_ok-check_compact.ensures (c.clear.ensures ∙ rw c.saturating_sub.ensures) refl

pub slice_bounds-clear-count : goal.slice_bounds-clear-count
slice_bounds-clear-count c = let f = compact-fits _ _ _ _ c.in_ok-check_compact.ensures refl in omega arith

pub slice_bounds-clear-start : goal.slice_bounds-clear-start
slice_bounds-clear-start c = let f = compact-fits _ _ _ _ c.in_ok-check_compact.ensures refl in omega arith

pub slice_bounds-clear-end : goal.slice_bounds-clear-end
slice_bounds-clear-end c = let f = compact-fits _ _ _ _ c.in_ok-check_compact.ensures refl in omega arith
