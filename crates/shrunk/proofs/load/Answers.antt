-- `shrunk::load` meets its contract: where the file fits, clog's load is the call. Assumes nothing.
use mathlib.Core.Path.{refl, sym}
use lib.Seq.{length-take-le}
use Rattle.clog.specs.Calls.{loaded_of}
use Rattle.clog.proofs.Ways.{handed-on}
use Rattle.shrunk.proofs.Ways.{form-means, loaded-no, loaded-done}
use Rattle.shrunk.proofs.load.Goals as goal

pub returns-in_err-check_form : goal.returns-in_err-check_form
returns-in_err-check_form c = rw (handed-on _ _ c.from_residual.ensures.1) (loaded-no c.args.second.now c.args.len _ c.in_err-check_form.ensures 256)

pub slice_bounds-base_in-end : goal.slice_bounds-base_in-end
slice_bounds-base_in-end c =
    (form-means _ _ c.in_ok-check_form.ensures refl).1

pub slice_bounds-base_in-end-2 : goal.slice_bounds-base_in-end-2
slice_bounds-base_in-end-2 c =
    sym (length-take-le _ _ (form-means _ _ c.in_ok-check_form.ensures refl).1)

pub base_in-base-requires : goal.base_in-base-requires
base_in-base-requires c =
    (form-means _ _ c.in_ok-check_form.ensures refl).2

pub returns : goal.returns
returns c =
    let a = c.args in
    loaded-done a.second.now a.len c.in_ok-check_form.ensures 256 (loaded_of a.len c.load_in.result) c.base_in-base.result c.load_in.new.clog c.base_in-base.ensures.0 c.load_in.ensures
