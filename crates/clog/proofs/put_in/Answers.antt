-- `clog::put_in` meets its contract: a law of proofs/Ways.antt for each way out; that the record is accepted says that the byte lies in the buffer. Assumes nothing.
use mathlib.Core.Path.{refl}
use native.Mathlib.Omega.{arith}
use Rattle.clog.proofs.Refusals.{record-fits}
use Rattle.clog.proofs.Ways.{handed-on, recorded-no, recorded-done}
use Rattle.clog.proofs.put_in.Goals as goal

pub returns-in_err-check_record : goal.returns-in_err-check_record
returns-in_err-check_record c = let a = c.args in rw (handed-on _ _ c.from_residual.ensures.1) (recorded-no _ _ a.h a.base a.id a.code _ c.in_err-check_record.ensures)

pub overflow_sub-k : goal.overflow_sub-k
overflow_sub-k c = (record-fits _ _ _ _ _ _ c.in_ok-check_record.ensures refl).4

pub overflow_add-at : goal.overflow_add-at
overflow_add-at c = let f = record-fits _ _ _ _ _ _ c.in_ok-check_record.ensures refl in omega arith

pub overflow_add-at-2 : goal.overflow_add-at-2
overflow_add-at-2 c = let f = record-fits _ _ _ _ _ _ c.in_ok-check_record.ensures refl in omega arith

pub bounds-clog-at : goal.bounds-clog-at
bounds-clog-at c = let f = record-fits _ _ _ _ _ _ c.in_ok-check_record.ensures refl in omega (arith, c.zero_fill.auto.b)

pub bounds-clog-at-2 : goal.bounds-clog-at-2
bounds-clog-at-2 c = let f = record-fits _ _ _ _ _ _ c.in_ok-check_record.ensures refl in omega (arith, c.zero_fill.auto.b)

pub overflow_add-at-3 : goal.overflow_add-at-3
overflow_add-at-3 c = let f = record-fits _ _ _ _ _ _ c.in_ok-check_record.ensures refl in omega arith

pub returns : goal.returns
returns c = let a = c.args in recorded-done _ _ a.h a.base a.id a.code _ _ _ c.in_ok-check_record.ensures c.zero_fill.ensures c.with_bits.ensures c.max.ensures
