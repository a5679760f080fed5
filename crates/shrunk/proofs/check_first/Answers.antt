-- `shrunk::check_first` meets its contract: each test that fails decides. Assumes nothing.
use mathlib.Core.Path.{refl, sym}
use native.Mathlib.Omega.{arith}
use lib.Seq.{length-take-le}
use Rattle.fields.specs.Files.{file_of}
use Rattle.shrunk.specs.Calls.{first_no}
use Rattle.clog.proofs.Ways.{handed-on}
use Rattle.shrunk.proofs.Ways.{form-means, form-other, form-head, first_short, first-room}
use Rattle.shrunk.proofs.check_first.Goals as goal

pub returns-in_err-check_form : goal.returns-in_err-check_form
unfolding first_no
returns-in_err-check_form c = rw (handed-on _ _ c.from_residual.ensures.1) (form-other (file_of c.args.second.now c.args.len) _ _ c.in_err-check_form.ensures)

pub slice_bounds-base_in-end : goal.slice_bounds-base_in-end
slice_bounds-base_in-end c =
    let m = form-means _ _ c.in_ok-check_form.ensures refl in
    sym (length-take-le _ _ m.1)

pub base_in-base-requires : goal.base_in-base-requires
base_in-base-requires c =
    (form-means _ _ c.in_ok-check_form.ensures refl).2

pub overflow_sub-n : goal.overflow_sub-n
overflow_sub-n c =
    let a = c.args in
    form-head a.second.now a.len c.in_ok-check_form.ensures

pub overflow_add-n : goal.overflow_add-n
overflow_add-n c =
    let a = c.args in
    let m = form-means (file_of a.second.now a.len) _ c.in_ok-check_form.ensures refl in
    omega (arith, m.0, m.1, c.packed_at.ensures, c.base_in-base.ensures)

pub returns-then-min-n : goal.returns-then-min-n
returns-then-min-n c =
    let a = c.args in
    let b = c.base_in-base.ensures.0 in
    sym (first_short (file_of a.second.now a.len) a.size c.in_ok-check_form.ensures (omega (arith, c.min.ensures, c.packed_at.ensures, rw b at c.packed_at.ensures, c.if-min-n.true)))

pub returns : goal.returns
returns c =
    let a = c.args in
    let b = c.base_in-base.ensures.0 in
    sym (first-room (file_of a.second.now a.len) a.size c.in_ok-check_form.ensures (omega (arith, c.min.ensures, c.packed_at.ensures, rw b at c.packed_at.ensures, c.if-min-n.false)))
