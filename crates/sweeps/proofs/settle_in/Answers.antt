-- `sweeps::settle_in` meets its contract. The loop's invariant: settling what is left gives what was asked for. The measure is how many bytes are left. Assumes nothing.
use mathlib.Core.Path.{refl, sym, ◌∙◌}
use Prim.Native.Nat.{◌+◌}
use native.Mathlib.Omega.{arith}
use lib.ListN.{take, set, length-set}
use lib.Seq.{length-take-le}
use Rattle.sweeps.proofs.Zeros.{busy-within}
use Rattle.sweeps.proofs.Laws.{settle-skip, settle-turn, settle-end}
use Rattle.sweeps.proofs.settle_in.Goals as goal

pub slice_bounds-next_busy-end-2 : goal.slice_bounds-next_busy-end-2
slice_bounds-next_busy-end-2 c = let a = c.args in sym (length-take-le a.len a.clog.now (omega arith))

pub next_busy-i-requires : goal.next_busy-i-requires
next_busy-i-requires c = let a = c.args in omega (arith, length-take-le a.len a.clog.now (omega arith))

pub loop-i-init : goal.loop-i-init
loop-i-init c =
    let a = c.args in
    let n = length-take-le a.len a.clog.now (omega arith) in
    let b = c.next_busy-i in
    let w = busy-within (take a.len a.clog.now) 8 (omega (arith, n)) in
    (refl, omega (arith, w.1, n, b.ensures), settle-skip a.clog.now b.result 8 a.len (omega arith) b.ensures)

pub slice_bounds-next_busy-end-in-loop-i : goal.slice_bounds-next_busy-end-in-loop-i
slice_bounds-next_busy-end-in-loop-i c =
    let l = c.loop-i in
    simp length-set (omega arith)

pub slice_bounds-next_busy-end-in-loop-i-2 : goal.slice_bounds-next_busy-end-in-loop-i-2
slice_bounds-next_busy-end-in-loop-i-2 c =
    let l = c.loop-i in
    sym (length-take-le _ _ (simp length-set (omega arith)))

pub next_busy-i-requires-in-loop-i : goal.next_busy-i-requires-in-loop-i
next_busy-i-requires-in-loop-i c =
    let l = c.loop-i in
    let a = c.args in
    let m = set l.clog l.i c.settled_byte-b.result in
    let n = length-take-le a.len m (simp length-set (omega arith)) in
    omega (arith, n)

pub loop-i-smaller : goal.loop-i-smaller
loop-i-smaller c =
    let l = c.loop-i in
    let a = c.args in
    let b = c.next_busy-i-in-loop-i in
    let m = set l.clog l.i c.settled_byte-b.result in
    let n = length-take-le a.len m (simp length-set (omega arith)) in
    let w = busy-within (take a.len m) (l.i + 1) (omega (arith, n)) in
    omega (arith, w.0, b.ensures)

pub loop-i-preserved : goal.loop-i-preserved
loop-i-preserved c =
    let l = c.loop-i in
    let a = c.args in
    let s = c.settled_byte-b in
    let b = c.next_busy-i-in-loop-i in
    let m = set l.clog l.i s.result in
    let n = length-take-le a.len m (simp length-set (omega arith)) in
    let w = busy-within (take a.len m) (l.i + 1) (omega (arith, n)) in
    (simp length-set l.invariant.0, omega (arith, w.1, n, b.ensures), settle-skip m b.result (l.i + 1) a.len (simp length-set (omega arith)) b.ensures ∙ settle-turn l.clog l.i a.len (omega arith) (omega arith) s.result s.ensures ∙ l.invariant.2)

pub shape_of-clog : goal.shape_of-clog
shape_of-clog c = c.loop-i.invariant.0

pub returns : goal.returns
returns c =
    let l = c.loop-i in
    let a = c.args in
    sym (settle-end l.clog l.i a.len (omega arith)) ∙ l.invariant.2
