-- `clog::count_in` meets its contract. The loop's invariant: the count and how many entries are left make how many there are.
-- The measure is how many slots are left. Assumes nothing.
use mathlib.Core.Path.{◌≡◌, ap}
use Prim.Native.Nat.{◌+◌, ◌/◌}
use native.Mathlib.Omega.{arith}
use native.Mathlib.Nat.{zero-add}
use lib.ListN.{length, drop, get_or}
use Rattle.clog.specs.Slots.{codes, entries_from, entries_in, in_use}
use Rattle.clog.proofs.Codes.{stride-count, stride-small, slots-done}
use Rattle.clog.proofs.count_in.Goals as goal

pub loop-k-init : goal.loop-k-init
loop-k-init c = (omega arith, omega arith, zero-add _)

pub overflow_add-k : goal.overflow_add-k
overflow_add-k c =
    let l = c.loop-k in
    let a = c.args in
    let st = stride-small (get_or a.s.now (a.h + l.k / 4) 0) l.k in
    omega (arith, c.stride-k.ensures)

pub loop-k-smaller : goal.loop-k-smaller
loop-k-smaller c =
    let l = c.loop-k in
    let a = c.args in
    let st = stride-small (get_or a.s.now (a.h + l.k / 4) 0) l.k in
    omega (arith, c.stride-k.ensures)

pub loop-k-preserved : goal.loop-k-preserved
loop-k-preserved c =
    let l = c.loop-k in
    let a = c.args in
    let st = stride-small (get_or a.s.now (a.h + l.k / 4) 0) l.k in
    let q = c.stride-k.ensures in
    let s = c.slot_at-c in
    let o = c.one_if-n in
    let e = stride-count a.h a.s.now l.k 0 s.result c.stride-k.result o.result (omega arith) s.ensures.0 c.stride-k.ensures o.ensures.0 in
    (omega arith, omega arith, omega arith)

pub returns : goal.returns
unfolding entries_in in_use
returns c =
    let l = c.loop-k in
    let a = c.args in
    let e : length (entries_from (0 + l.k) (drop l.k (codes (drop a.h a.s.now)))) ≡ 0 = ap length (slots-done a.h a.s.now l.k (0 + l.k) (omega arith)) in
    omega arith
