-- `clog::check_record` meets its contract: each test that fails decides; the room after the header is compared, which is the definition's test. Assumes nothing.
use mathlib.Core.Path.{sym, ◌∙◌}
use Prim.Native.Nat.{◌+◌, ◌-◌, ◌/◌}
use native.Mathlib.Omega.{arith}
use borrow.Author.Tests.{lt-ltb, le-ltb, le-leb, lt-leb}
use Rattle.clog.specs.Calls.{record_no}
use Rattle.clog.proofs.Refusals.{fit-means}
use Rattle.clog.proofs.check_record.Goals as goal

pub returns-then-bad_length : goal.returns-then-bad_length
unfolding record_no
returns-then-bad_length c = rw (sym c.bad_length.ensures ∙ c.if-bad_length.true)

pub returns-then-id-base : goal.returns-then-id-base
unfolding record_no
returns-then-id-base c =
    let u = sym c.bad_length.ensures ∙ c.if-bad_length.false in
    rw (u, lt-ltb _ _ c.if-id-base.true)

pub overflow_sub-size : goal.overflow_sub-size
overflow_sub-size c = omega (arith, fit-means _ _ _ (sym c.bad_length.ensures ∙ c.if-bad_length.false))

pub returns-then-size-h : goal.returns-then-size-h
unfolding record_no
returns-then-size-h c =
    let u = sym c.bad_length.ensures ∙ c.if-bad_length.false in
    let a = c.args in
    let f = fit-means a.h a.size a.len u in
    rw (u, le-ltb a.id a.base (omega arith), le-leb a.size (a.h + (a.id - a.base) / 4) (omega arith))

pub returns : goal.returns
unfolding record_no
returns c =
    let u = sym c.bad_length.ensures ∙ c.if-bad_length.false in
    let a = c.args in
    let f = fit-means a.h a.size a.len u in
    rw (u, le-ltb a.id a.base (omega arith), lt-leb a.size (a.h + (a.id - a.base) / 4) (omega arith))
