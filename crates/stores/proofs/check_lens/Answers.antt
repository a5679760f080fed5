-- `stores::check_lens` meets its contract: test by test. Assumes nothing.
use Rattle.stores.specs.Room.{form_no}
use borrow.Author.Tests.{le-ltb, lt-ltb}
use native.Mathlib.Omega.{arith}
use mathlib.Core.Path.{sym, ◌∙◌}
use Rattle.stores.proofs.check_lens.Goals as goal

pub returns-then-is_unfit : goal.returns-then-is_unfit
unfolding form_no
returns-then-is_unfit c = rw (sym c.is_unfit.ensures ∙ c.if-is_unfit.true)

pub returns-then-is_unfit-2 : goal.returns-then-is_unfit-2
unfolding form_no
returns-then-is_unfit-2 c = rw (sym c.is_unfit.ensures ∙ c.if-is_unfit.false, sym c.is_unfit-2.ensures ∙ c.if-is_unfit-2.true)

pub returns-then-is_unfit-3 : goal.returns-then-is_unfit-3
unfolding form_no
returns-then-is_unfit-3 c = rw (sym c.is_unfit.ensures ∙ c.if-is_unfit.false, sym c.is_unfit-2.ensures ∙ c.if-is_unfit-2.false, sym c.is_unfit-3.ensures ∙ c.if-is_unfit-3.true)

pub returns-then-lens-lt-HEADER : goal.returns-then-lens-lt-HEADER
unfolding form_no
returns-then-lens-lt-HEADER c = let a = c.args.lens in rw (sym c.is_unfit.ensures ∙ c.if-is_unfit.false, sym c.is_unfit-2.ensures ∙ c.if-is_unfit-2.false, sym c.is_unfit-3.ensures ∙ c.if-is_unfit-3.false, lt-ltb a.log 8 (omega arith))

pub returns-then-lens-lt-HEADER-2 : goal.returns-then-lens-lt-HEADER-2
unfolding form_no
returns-then-lens-lt-HEADER-2 c = let a = c.args.lens in rw (sym c.is_unfit.ensures ∙ c.if-is_unfit.false, sym c.is_unfit-2.ensures ∙ c.if-is_unfit-2.false, sym c.is_unfit-3.ensures ∙ c.if-is_unfit-3.false, le-ltb a.log 8 (omega arith), lt-ltb a.clog 8 (omega arith))

pub returns : goal.returns
unfolding form_no
returns c = let a = c.args.lens in rw (sym c.is_unfit.ensures ∙ c.if-is_unfit.false, sym c.is_unfit-2.ensures ∙ c.if-is_unfit-2.false, sym c.is_unfit-3.ensures ∙ c.if-is_unfit-3.false, le-ltb a.log 8 (omega arith), le-ltb a.clog 8 (omega arith))
