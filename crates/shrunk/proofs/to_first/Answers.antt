-- `shrunk::to_first` meets its contract: a law of proofs/Ways.antt for each way out. Assumes nothing.
use mathlib.Core.Path.{refl, sym}
use native.Mathlib.Omega.{arith}
use lib.Seq.{length-take-le}
use Rattle.fields.specs.Files.{file_of}
use Rattle.clog.specs.Slots.{clog_magic}
use Rattle.shrunk.specs.Calls.{moved_first}
use Rattle.clog.proofs.Ways.{handed-on}
use Rattle.shrunk.proofs.Ways.{first-means, first_done, move-no}
use Rattle.shrunk.proofs.to_first.Goals as goal

pub returns-in_err-check_first : goal.returns-in_err-check_first
unfolding moved_first
returns-in_err-check_first c = rw (handed-on _ _ c.from_residual.ensures.1) (move-no _ _ c.args.out.now _ c.in_err-check_first.ensures)

pub slice_bounds-base_in-end : goal.slice_bounds-base_in-end
slice_bounds-base_in-end c =
    let m = first-means _ _ _ c.in_ok-check_first.ensures refl in
    sym (length-take-le _ _ m.1)

pub base_in-base-requires : goal.base_in-base-requires
base_in-base-requires c =
    (first-means _ _ _ c.in_ok-check_first.ensures refl).2

pub slice_bounds-lay-count : goal.slice_bounds-lay-count
slice_bounds-lay-count c =
    (first-means _ _ _ c.in_ok-check_first.ensures refl).3

pub slice_bounds-lay-start : goal.slice_bounds-lay-start
slice_bounds-lay-start c =
    (first-means _ _ _ c.in_ok-check_first.ensures refl).3

pub slice_bounds-lay-end-2 : goal.slice_bounds-lay-end-2
slice_bounds-lay-end-2 c =
    (first-means _ _ _ c.in_ok-check_first.ensures refl).1

pub overflow_sub-result : goal.overflow_sub-result
overflow_sub-result c =
    (first-means _ _ _ c.in_ok-check_first.ensures refl).3

pub overflow_add-result : goal.overflow_add-result
overflow_add-result c =
    let m = first-means _ _ _ c.in_ok-check_first.ensures refl in
    omega (arith, m.0, m.1, c.packed_at-from.ensures, c.base_in-base.ensures)

pub returns : goal.returns
unfolding clog_magic
returns c =
    let a = c.args in
    let m = first-means (file_of a.second.now a.len) _ _ c.in_ok-check_first.ensures refl in
    let b = c.base_in-base.ensures.0 in
    let f = rw b at c.packed_at-from.ensures in
    rw f
    (first_done a.len a.second.now m.1 a.out.now _ _ _ c.in_ok-check_first.ensures c.lay.ensures
    (rw f at c.zero_fill.ensures) (rw f at c.lay-2.ensures))
