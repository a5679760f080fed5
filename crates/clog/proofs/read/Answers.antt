-- `clog::read` meets its contract: what load tells and its table, with no byte changed. Assumes nothing.
use mathlib.Core.Path.{refl, sym, ap}
use native.Mathlib.Omega.{arith}
use lib.Seq.{length-take-le}
use lib.ListN.{take}
use Rattle.clog.specs.Calls.{seen_of}
use Rattle.clog.proofs.Refusals.{load_fits}
use Rattle.clog.proofs.Ways.{handed-on, loaded-no, loaded-seen}
use Rattle.clog.proofs.Codes.{many}
use Rattle.clog.proofs.read.Goals as goal

pub returns-in_err-check_load : goal.returns-in_err-check_load
returns-in_err-check_load c = let a = c.args in rw (handed-on _ _ c.from_residual.ensures.1) (ap seen_of (loaded-no a.clog.now a.len 256 8 0 _ c.in_err-check_load.ensures))

pub slice_bounds-list_in-end : goal.slice_bounds-list_in-end
slice_bounds-list_in-end c = sym (length-take-le _ _ (load_fits 256 8 _ _ c.in_ok-check_load.ensures refl).1)

pub list_in-t-requires : goal.list_in-t-requires
list_in-t-requires c =
    let a = c.args in
    let f = load_fits 256 8 _ _ c.in_ok-check_load.ensures refl in
    let n = length-take-le a.len a.clog.now f.1 in
    let m = many 8 0 (take a.len a.clog.now) in
    (omega arith, omega arith, omega arith, omega arith)

pub returns : goal.returns
returns c = loaded-seen c.args.clog.now c.args.len 256 8 0 _ c.in_ok-check_load.ensures c.list_in-t.ensures
