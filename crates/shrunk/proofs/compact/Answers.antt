-- `shrunk::compact` meets its contract: where the file fits, clog's compaction is the call. Assumes nothing.
use mathlib.Core.Path.{refl, sym}
use lib.Seq.{length-take-le}
use Rattle.clog.proofs.Ways.{handed-on}
use Rattle.shrunk.proofs.Ways.{form-means, compacted-no, compacted-done}
use Rattle.shrunk.proofs.compact.Goals as goal

pub returns-in_err-check_form : goal.returns-in_err-check_form
returns-in_err-check_form c = rw (handed-on _ _ c.from_residual.ensures.1) (compacted-no c.args.second.now c.args.len _ c.in_err-check_form.ensures c.args.below.0)

pub slice_bounds-base_in-end : goal.slice_bounds-base_in-end
slice_bounds-base_in-end c =
    (form-means _ _ c.in_ok-check_form.ensures refl).1

pub slice_bounds-base_in-end-2 : goal.slice_bounds-base_in-end-2
slice_bounds-base_in-end-2 c =
    sym (length-take-le _ _ (form-means _ _ c.in_ok-check_form.ensures refl).1)

pub base_in-base-requires : goal.base_in-base-requires
base_in-base-requires c =
    (form-means _ _ c.in_ok-check_form.ensures refl).2

pub returns : goal.returns
returns c =
    let a = c.args in
    compacted-done a.second.now a.len c.in_ok-check_form.ensures c.compact_in.result a.below.0 c.base_in-base.result c.compact_in.new.clog c.base_in-base.ensures.0 c.compact_in.ensures
