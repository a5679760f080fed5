-- `xacts::write_pages` meets its contract: a law of proofs/Ways.antt for each way out; that the call is accepted says that the clog fits and the output has room. Assumes nothing.
use mathlib.Core.Path.{refl}
use native.Mathlib.Omega.{arith}
use lib.Dec.{lit≤}
use Rattle.fields.specs.Files.{file_of}
use Rattle.clog.proofs.Ways.{handed-on}
use Rattle.xacts.proofs.Ways.{write-fits, lent_length, lent-room, written-no, written-lent}
use Rattle.xacts.proofs.write_pages.Goals as goal

pub returns-in_err-check_write : goal.returns-in_err-check_write
returns-in_err-check_write c = let a = c.args in rw (handed-on _ _ c.from_residual.ensures.1) (written-no 8192 a.mark.0 (file_of a.clog.now a.len) _ _ c.in_err-check_write.ensures)

pub overflow_sub-n : goal.overflow_sub-n
overflow_sub-n c = let f = write-fits 8192 c.args.mark.0 (file_of c.args.clog.now c.args.len) _ _ c.in_ok-check_write.ensures refl in f.2

pub whole_pages-end-requires : goal.whole_pages-end-requires
whole_pages-end-requires c = let f = write-fits 8192 c.args.mark.0 (file_of c.args.clog.now c.args.len) _ _ c.in_ok-check_write.ensures refl in omega arith

pub slice_bounds-write_body-count : goal.slice_bounds-write_body-count
slice_bounds-write_body-count c = let f = write-fits 8192 c.args.mark.0 (file_of c.args.clog.now c.args.len) _ _ c.in_ok-check_write.ensures refl in f.2

pub slice_bounds-write_body-start : goal.slice_bounds-write_body-start
slice_bounds-write_body-start c = let f = write-fits 8192 c.args.mark.0 (file_of c.args.clog.now c.args.len) _ _ c.in_ok-check_write.ensures refl in omega arith

pub slice_bounds-write_body-end : goal.slice_bounds-write_body-end
slice_bounds-write_body-end c = let f = write-fits 8192 c.args.mark.0 (file_of c.args.clog.now c.args.len) _ _ c.in_ok-check_write.ensures refl in omega arith

pub write_body-requires : goal.write_body-requires
write_body-requires c =
    let a = c.args in
    let f = write-fits 8192 c.args.mark.0 (file_of c.args.clog.now c.args.len) _ _ c.in_ok-check_write.ensures refl in
    let n = lent_length a.clog.now a.len f.1 in
    (omega arith, lent-room 8192 a.mark.0 a.clog.now a.len _ (lit≤ tt) f.1 f.4)

pub returns : goal.returns
returns c = let a = c.args in written-lent 8192 a.mark.0 a.clog.now a.len a.out.now c.in_ok-check_write.ensures (lit≤ tt) _ _ _ c.whole_pages-end.ensures c.write_body.ensures c.zero_fill.ensures
