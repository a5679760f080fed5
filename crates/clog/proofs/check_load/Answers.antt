-- `clog::check_load` meets its contract: each test that fails decides; the count is how many slots are not 0. Assumes nothing.
use mathlib.Core.Path.{sym, ◌∙◌}
use native.Mathlib.Omega.{arith}
use lib.Seq.{length-take-le}
use borrow.Author.Tests.{lt-ltb, le-ltb}
use Rattle.clog.specs.Calls.{load_no}
use Rattle.clog.specs.Slots.{in_use}
use lib.ListN.{take}
use Rattle.clog.proofs.Refusals.{fit-means}
use Rattle.clog.proofs.check_load.Goals as goal

pub returns-then-bad_length : goal.returns-then-bad_length
unfolding load_no
returns-then-bad_length c = rw (sym c.bad_length.ensures ∙ c.if-bad_length.true)

pub slice_bounds-count_in-end : goal.slice_bounds-count_in-end
slice_bounds-count_in-end c =
    let a = c.args in
    let u = sym c.bad_length.ensures ∙ c.if-bad_length.false in
    let f = fit-means a.h _ a.len u in
    sym (length-take-le _ _ f.1)

pub count_in-n-requires : goal.count_in-n-requires
count_in-n-requires c =
    let a = c.args in
    let u = sym c.bad_length.ensures ∙ c.if-bad_length.false in
    let f = fit-means a.h _ a.len u in
    let n = length-take-le a.len a.clog.now f.1 in
    (omega arith, omega arith)

pub returns-then-n-gt-TABLE_LIMIT : goal.returns-then-n-gt-TABLE_LIMIT
unfolding load_no
returns-then-n-gt-TABLE_LIMIT c =
    let a = c.args in
    let u = sym c.bad_length.ensures ∙ c.if-bad_length.false in
    rw (u, lt-ltb 256 (in_use a.h (take a.len a.clog.now)) (omega (arith, c.count_in-n.ensures)))

pub returns : goal.returns
unfolding load_no
returns c =
    let a = c.args in
    let u = sym c.bad_length.ensures ∙ c.if-bad_length.false in
    rw (u, le-ltb 256 (in_use a.h (take a.len a.clog.now)) (omega (arith, c.count_in-n.ensures)))
