-- `shrunk::check_second` meets its contract: each test that fails decides. Assumes nothing.
use mathlib.Core.Path.{sym, ap, ◌∙◌}
use Prim.Native.Nat.{◌-◌}
use native.Mathlib.Omega.{arith}
use lib.Seq.{length-take-le}
use borrow.Author.Tests.{not-true, not-false}
use Rattle.clog.specs.Slots.{clog_magic}
use Rattle.clog.proofs.Refusals.{fit-means}
use Rattle.shrunk.specs.Form.{any_nonzero}
use Rattle.shrunk.proofs.MoveLaws.{under-is, under-within, under-most}
use Rattle.shrunk.proofs.Ways.{second-unfit, second-magic, second_below, second_short, second-room, below-part}
use Rattle.shrunk.proofs.check_second.Goals as goal

pub returns-then-bad_length : goal.returns-then-bad_length
returns-then-bad_length c =
    let a = c.args in
    sym (second-unfit a.mark a.len a.size a.clog.now (sym c.bad_length.ensures ∙ c.if-bad_length.true))

pub slice_bounds-begins-end-2 : goal.slice_bounds-begins-end-2
slice_bounds-begins-end-2 c =
    let a = c.args in
    let f = fit-means 8 _ _ (sym c.bad_length.ensures ∙ c.if-bad_length.false) in
    sym (length-take-le a.len a.clog.now f.1)

pub returns-then-not-begins : goal.returns-then-not-begins
unfolding clog_magic
returns-then-not-begins c =
    let a = c.args in
    let u = sym c.bad_length.ensures ∙ c.if-bad_length.false in
    sym (second-magic a.mark a.len a.size a.clog.now u (sym c.begins.ensures ∙ not-true _ c.if-not-begins.true-raw))

pub overflow_sub-len : goal.overflow_sub-len
overflow_sub-len c =
    (fit-means 8 _ _ (sym c.bad_length.ensures ∙ c.if-bad_length.false)).2

pub base_under-base-requires : goal.base_under-base-requires
base_under-base-requires c =
    let f = fit-means 8 _ _ (sym c.bad_length.ensures ∙ c.if-bad_length.false) in
    omega arith

pub packed_at-from-requires : goal.packed_at-from-requires
packed_at-from-requires c =
    let a = c.args in
    let f = fit-means 8 _ _ (sym c.bad_length.ensures ∙ c.if-bad_length.false) in
    omega (arith, (c.base_under-base.ensures ∙ under-is _ _), under-most a.mark (a.len - 8))

pub slice_bounds-any_nonzero-end : goal.slice_bounds-any_nonzero-end
slice_bounds-any_nonzero-end c =
    let a = c.args in
    let f = fit-means 8 _ _ (sym c.bad_length.ensures ∙ c.if-bad_length.false) in
    let b = (c.base_under-base.ensures ∙ under-is _ _) in
    omega (arith, rw b at c.packed_at-from.ensures, under-within a.mark (a.len - 8))

pub returns-then-any_nonzero : goal.returns-then-any_nonzero
unfolding clog_magic
returns-then-any_nonzero c =
    let a = c.args in
    let u = sym c.bad_length.ensures ∙ c.if-bad_length.false in
    let m = sym c.begins.ensures ∙ not-false _ c.if-not-begins.false-raw in
    let f = fit-means 8 _ _ u in
    let p = rw (c.base_under-base.ensures ∙ under-is _ _) at c.packed_at-from.ensures in
    let n = rw p at c.any_nonzero.ensures in
    let b = ap any_nonzero (sym (below-part a.mark a.len a.clog.now f.1 f.2)) ∙ sym n ∙ c.if-any_nonzero.true in
    sym (second_below a.mark a.len a.size a.clog.now u m b)

pub overflow_sub-len-2 : goal.overflow_sub-len-2
overflow_sub-len-2 c =
    let a = c.args in
    let f = fit-means 8 _ _ (sym c.bad_length.ensures ∙ c.if-bad_length.false) in
    let b = (c.base_under-base.ensures ∙ under-is _ _) in
    omega (arith, rw b at c.packed_at-from.ensures, under-within a.mark (a.len - 8))

pub overflow_add-len : goal.overflow_add-len
overflow_add-len c =
    let f = fit-means 8 _ _ (sym c.bad_length.ensures ∙ c.if-bad_length.false) in
    omega arith

pub returns-then-size-len : goal.returns-then-size-len
unfolding clog_magic
returns-then-size-len c =
    let a = c.args in
    let u = sym c.bad_length.ensures ∙ c.if-bad_length.false in
    let m = sym c.begins.ensures ∙ not-false _ c.if-not-begins.false-raw in
    let f = fit-means 8 _ _ u in
    let p = rw (c.base_under-base.ensures ∙ under-is _ _) at c.packed_at-from.ensures in
    let n = rw p at c.any_nonzero.ensures in
    let b = ap any_nonzero (sym (below-part a.mark a.len a.clog.now f.1 f.2)) ∙ sym n ∙ c.if-any_nonzero.false in
    sym (second_short a.mark a.len a.size a.clog.now u m b (rw p at c.if-size-len.true))

pub returns : goal.returns
unfolding clog_magic
returns c =
    let a = c.args in
    let u = sym c.bad_length.ensures ∙ c.if-bad_length.false in
    let m = sym c.begins.ensures ∙ not-false _ c.if-not-begins.false-raw in
    let f = fit-means 8 _ _ u in
    let p = rw (c.base_under-base.ensures ∙ under-is _ _) at c.packed_at-from.ensures in
    let n = rw p at c.any_nonzero.ensures in
    let b = ap any_nonzero (sym (below-part a.mark a.len a.clog.now f.1 f.2)) ∙ sym n ∙ c.if-any_nonzero.false in
    sym (second-room a.mark a.len a.size a.clog.now u m b (omega (arith, p, c.if-size-len.false)))
