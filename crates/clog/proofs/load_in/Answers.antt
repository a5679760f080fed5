-- `clog::load_in` meets its contract: a law of proofs/Ways.antt for each way out; that the load is accepted says that the length fits and the entries have room. Assumes nothing.
use mathlib.Core.Path.{refl, sym}
use native.Mathlib.Omega.{arith}
use lib.ListN.{take}
use lib.Seq.{length-take-le}
use Rattle.clog.proofs.Refusals.{load_fits}
use Rattle.clog.proofs.Ways.{handed-on, loaded-no, loaded-done}
use Rattle.clog.proofs.Codes.{many}
use Rattle.clog.proofs.load_in.Goals as goal

pub returns-in_err-check_load : goal.returns-in_err-check_load
returns-in_err-check_load c = let a = c.args in rw (handed-on _ _ c.from_residual.ensures.1) (loaded-no _ _ 256 a.h a.base _ c.in_err-check_load.ensures)

pub slice_bounds-list_in-end : goal.slice_bounds-list_in-end
slice_bounds-list_in-end c = let f = load_fits 256 c.args.h _ _ c.in_ok-check_load.ensures refl in f.1

pub slice_bounds-list_in-end-2 : goal.slice_bounds-list_in-end-2
slice_bounds-list_in-end-2 c = let f = load_fits 256 c.args.h _ _ c.in_ok-check_load.ensures refl in sym (length-take-le _ _ f.1)

pub list_in-t-requires : goal.list_in-t-requires
list_in-t-requires c =
    let a = c.args in
    let f = load_fits 256 a.h _ _ c.in_ok-check_load.ensures refl in
    let n = length-take-le a.len a.clog.now f.1 in
    let m = many a.h a.base (take a.len a.clog.now) in
    (omega arith, omega arith, omega arith, omega arith)

pub returns : goal.returns
returns c = let a = c.args in loaded-done a.clog.now a.len 256 a.h a.base _ c.in_ok-check_load.ensures c.list_in-t.ensures c.settle.new.body _ c.settle.ensures refl

pub slice_bounds-settle-count : goal.slice_bounds-settle-count
slice_bounds-settle-count c = let f = load_fits 256 c.args.h _ _ c.in_ok-check_load.ensures refl in omega arith

pub slice_bounds-settle-start : goal.slice_bounds-settle-start
slice_bounds-settle-start c = let f = load_fits 256 c.args.h _ _ c.in_ok-check_load.ensures refl in omega arith

pub slice_bounds-settle-end : goal.slice_bounds-settle-end
slice_bounds-settle-end c = let f = load_fits 256 c.args.h _ _ c.in_ok-check_load.ensures refl in omega arith
