-- `shrunk::to_second` meets its contract: a law of proofs/Ways.antt for each way out. Assumes nothing.
use mathlib.Core.Path.{refl, ◌∙◌}
use Prim.Native.Nat.{◌-◌}
use native.Mathlib.Omega.{arith}
use lib.ListN.{take}
use Rattle.shrunk.specs.Calls.{moved_second}
use Rattle.shrunk.proofs.MoveLaws.{under-is, under-within, under-most, length-second}
use Rattle.clog.proofs.Ways.{handed-on}
use Rattle.shrunk.proofs.Ways.{second-means, second-done, move-no}
use Rattle.shrunk.proofs.to_second.Goals as goal

pub returns-in_err-check_second : goal.returns-in_err-check_second
unfolding moved_second
returns-in_err-check_second c = rw (handed-on _ _ c.from_residual.ensures.1) (move-no _ _ c.args.out.now _ c.in_err-check_second.ensures)

pub overflow_sub-len : goal.overflow_sub-len
overflow_sub-len c =
    (second-means _ _ _ _ _ c.in_ok-check_second.ensures refl).2

pub base_under-base-requires : goal.base_under-base-requires
base_under-base-requires c =
    let m = second-means _ _ _ _ _ c.in_ok-check_second.ensures refl in
    omega (arith, m.0, m.1)

pub packed_at-from-requires : goal.packed_at-from-requires
packed_at-from-requires c =
    let a = c.args in
    let m = second-means _ _ _ _ _ c.in_ok-check_second.ensures refl in
    omega (arith, m.0, m.1, (c.base_under-base.ensures ∙ under-is _ _), under-most a.mark.0 (a.len - 8))

pub overflow_sub-n : goal.overflow_sub-n
overflow_sub-n c =
    let a = c.args in
    let m = second-means _ _ _ _ _ c.in_ok-check_second.ensures refl in
    omega (arith, m.2, rw (c.base_under-base.ensures ∙ under-is _ _) at c.packed_at-from.ensures, under-within a.mark.0 (a.len - 8))

pub put_header-requires : goal.put_header-requires
put_header-requires c =
    let a = c.args in
    let m = second-means _ _ _ _ _ c.in_ok-check_second.ensures refl in
    let l = length-second a.mark.0 (take a.len a.clog.now) in
    (omega (arith, m.5, l), omega (arith, m.0, m.1))

pub slice_bounds-lay-count : goal.slice_bounds-lay-count
slice_bounds-lay-count c =
    let a = c.args in
    let m = second-means _ _ _ _ _ c.in_ok-check_second.ensures refl in
    omega (arith, m.2, rw (c.base_under-base.ensures ∙ under-is _ _) at c.packed_at-from.ensures, under-within a.mark.0 (a.len - 8))

pub slice_bounds-lay-start : goal.slice_bounds-lay-start
slice_bounds-lay-start c =
    let a = c.args in
    let m = second-means _ _ _ _ _ c.in_ok-check_second.ensures refl in
    omega (arith, m.2, rw (c.base_under-base.ensures ∙ under-is _ _) at c.packed_at-from.ensures, under-within a.mark.0 (a.len - 8))

pub slice_bounds-lay-end : goal.slice_bounds-lay-end
slice_bounds-lay-end c =
    (second-means _ _ _ _ _ c.in_ok-check_second.ensures refl).1

pub overflow_add-result : goal.overflow_add-result
overflow_add-result c =
    let m = second-means _ _ _ _ _ c.in_ok-check_second.ensures refl in
    omega (arith, m.0, m.1)

pub returns : goal.returns
returns c =
    let a = c.args in
    let m = second-means _ _ _ _ _ c.in_ok-check_second.ensures refl in
    let b = (c.base_under-base.ensures ∙ under-is _ _) in
    let f = rw b at c.packed_at-from.ensures in
    rw f
    (second-done a.mark.0 a.len a.clog.now m.1 m.2 a.out.now _ _ c.in_ok-check_second.ensures
    (rw (b, f) at c.put_header.ensures) (rw f at c.lay.ensures))
