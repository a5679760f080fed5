-- `shrunk::record` meets its contract: a law of proofs/Ways.antt for each way out; a refusal of clog's is that of the call. Assumes nothing.
use mathlib.Core.Path.{refl, sym}
use native.Mathlib.Omega.{arith}
use lib.Seq.{length-take-le}
use Rattle.clog.specs.Slots.{code_of}
use Rattle.clog.proofs.Ways.{handed-on}
use Rattle.shrunk.proofs.Ways.{form-means, recorded-no, record-refused, told-length, record-accepted}
use Rattle.shrunk.proofs.record.Goals as goal

pub returns-in_err-check_form : goal.returns-in_err-check_form
returns-in_err-check_form c = rw (handed-on _ _ c.from_residual.ensures.1) (recorded-no c.args.second.now c.args.len _ c.in_err-check_form.ensures c.args.id.0 (code_of c.args.status))

pub slice_bounds-base_in-end : goal.slice_bounds-base_in-end
slice_bounds-base_in-end c =
    (form-means _ _ c.in_ok-check_form.ensures refl).1

pub slice_bounds-base_in-end-2 : goal.slice_bounds-base_in-end-2
slice_bounds-base_in-end-2 c =
    sym (length-take-le _ _ (form-means _ _ c.in_ok-check_form.ensures refl).1)

pub base_in-base-requires : goal.base_in-base-requires
base_in-base-requires c =
    (form-means _ _ c.in_ok-check_form.ensures refl).2

pub returns-in_err-n : goal.returns-in_err-n
returns-in_err-n c =
    rw (handed-on _ _ c.from_residual-in_err-n.ensures.1)
    (record-refused c.args.second.now c.args.len c.in_ok-check_form.ensures c.args.id.0 (code_of c.args.status) c.base_in-base.result c.base_in-base.ensures.0 _ c.record_in.new.clog c.in_err-n.ensures)

pub overflow_sub-n : goal.overflow_sub-n
overflow_sub-n c =
    let l = told-length c.args.second.now c.args.len c.in_ok-check_form.ensures c.args.id.0 (code_of c.args.status) c.base_in-base.result c.base_in-base.ensures.0 _ _ c.in_ok-n.ensures in
    omega arith

pub overflow_cast-n : goal.overflow_cast-n
overflow_cast-n c =
    let l = told-length c.args.second.now c.args.len c.in_ok-check_form.ensures c.args.id.0 (code_of c.args.status) c.base_in-base.result c.base_in-base.ensures.0 _ _ c.in_ok-n.ensures in
    omega arith

pub returns : goal.returns
returns c =
    record-accepted c.args.second.now c.args.len c.in_ok-check_form.ensures c.args.id.0 (code_of c.args.status) c.base_in-base.result c.base_in-base.ensures.0 _ _ c.in_ok-n.ensures _ c.put_big_u32.ensures
