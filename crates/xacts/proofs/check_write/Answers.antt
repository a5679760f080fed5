-- `xacts::check_write` meets its contract: the tests in the definition's order; the length of the pages is that of the body in whole pages. Assumes nothing.
use mathlib.Core.Path.{refl, sym, ◌∙◌}
use native.Mathlib.Omega.{arith}
use lib.Dec.{lit≤, lit<}
use Rattle.clog.proofs.Refusals.{fit-means}
use Rattle.fields.proofs.AnswerLaws.{handed-on}
use Rattle.xacts.specs.Calls.{write_no}
use Rattle.xacts.proofs.Ways.{first-told, rest-told, write-tests}
use Rattle.xacts.proofs.check_write.Goals as goal

pub returns-then-bad_length : goal.returns-then-bad_length
unfolding write_no
returns-then-bad_length c = rw (sym c.bad_length.ensures ∙ c.if-bad_length.true)

pub slice_bounds-has_slot-count : goal.slice_bounds-has_slot-count
slice_bounds-has_slot-count c = let f = fit-means 8 _ c.args.len (sym c.bad_length.ensures ∙ c.if-bad_length.false) in f.2

pub slice_bounds-has_slot-start : goal.slice_bounds-has_slot-start
slice_bounds-has_slot-start c = let f = fit-means 8 _ c.args.len (sym c.bad_length.ensures ∙ c.if-bad_length.false) in omega arith

pub slice_bounds-has_slot-end : goal.slice_bounds-has_slot-end
slice_bounds-has_slot-end c = let f = fit-means 8 _ c.args.len (sym c.bad_length.ensures ∙ c.if-bad_length.false) in omega arith

pub overflow_sub-len : goal.overflow_sub-len
overflow_sub-len c = let f = fit-means 8 _ c.args.len (sym c.bad_length.ensures ∙ c.if-bad_length.false) in f.2

pub whole_pages-requires : goal.whole_pages-requires
whole_pages-requires c = let f = fit-means 8 _ c.args.len (sym c.bad_length.ensures ∙ c.if-bad_length.false) in omega arith

pub returns-in_err-refuse_if : goal.returns-in_err-refuse_if
returns-in_err-refuse_if c =
    let a = c.args in
    rw (handed-on _ _ c.from_residual.ensures) (first-told _ _ 19 _ c.in_err-refuse_if.ensures
    ∙ write-tests 8192 a.mark a.clog.now a.len a.size (sym c.bad_length.ensures ∙ c.if-bad_length.false) (lit≤ tt) _ _ _ c.has_slot-active.ensures c.whole_pages.ensures refl)

pub returns : goal.returns
returns c =
    let a = c.args in
    c.refuse_if-2.ensures ∙ rest-told _ 19 _ (lit< tt) c.in_ok-refuse_if.ensures
    ∙ write-tests 8192 a.mark a.clog.now a.len a.size (sym c.bad_length.ensures ∙ c.if-bad_length.false) (lit≤ tt) _ _ _ c.has_slot-active.ensures c.whole_pages.ensures refl
