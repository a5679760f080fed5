-- `clog::open` meets its contract: a law of proofs/Ways.antt for each way out: refused, kept, reset. Assumes nothing.
use mathlib.Core.Path.{refl, sym, ◌∙◌}
use lib.Seq.{length-take-le}
use Rattle.clog.proofs.Refusals.{reset-fits}
use Rattle.clog.proofs.Ways.{handed-on, opened-no, opened-kept, opened-reset}
use Rattle.clog.specs.Slots.{clog_magic, valid_clog}
use Rattle.clog.proofs.open.Goals as goal

pub returns-in_err-check_reset : goal.returns-in_err-check_reset
returns-in_err-check_reset c = rw (handed-on _ _ c.from_residual.ensures.1) (opened-no _ _ _ c.in_err-check_reset.ensures)

pub slice_bounds-begins-end-2 : goal.slice_bounds-begins-end-2
slice_bounds-begins-end-2 c = (reset-fits _ _ _ c.in_ok-check_reset.ensures refl).1

pub slice_bounds-begins-end-3 : goal.slice_bounds-begins-end-3
slice_bounds-begins-end-3 c = sym (length-take-le _ _ (reset-fits _ _ _ c.in_ok-check_reset.ensures refl).1)

pub returns-then-valid : goal.returns-then-valid
unfolding clog_magic valid_clog
returns-then-valid c = opened-kept _ _ c.in_ok-check_reset.ensures (sym c.begins-valid.ensures ∙ c.if-valid.true)

pub returns : goal.returns
unfolding clog_magic valid_clog
returns c = opened-reset _ _ _ c.in_ok-check_reset.ensures (sym c.begins-valid.ensures ∙ c.if-valid.false) c.lay.ensures
