-- `sweeps::list_in` meets its contract. The loop's invariant: setting the entries that are left gives what setting all gives. The measure is how many bytes are left. Assumes nothing.
use Prim.Native.Nat.{◌*◌, ◌-◌}
use native.Mathlib.Omega.{arith}
use Rattle.rows.specs.Rows.{rowed}
use Rattle.sweeps.proofs.Laws.{list-start, list-turn, list-end}
use Rattle.sweeps.proofs.list_in.Goals as goal

pub loop-i-init : goal.loop-i-init
loop-i-init c =
    let a = c.args in
    list-start a.s.now a.rows.now c.next_busy-i.result (omega arith) c.next_busy-i.ensures

pub loop-i-smaller : goal.loop-i-smaller
loop-i-smaller c =
    let l = c.loop-i in
    let a = c.args in
    let t = list-turn a.s.now (rowed l.h l.rows) _ _ l.i c.next_place-i.result (omega arith) (omega arith) c.note_byte-h.ensures c.next_place-i.ensures l.invariant.2 in
    omega (arith, t.0)

pub loop-i-preserved : goal.loop-i-preserved
loop-i-preserved c =
    let l = c.loop-i in
    let a = c.args in
    let t = list-turn a.s.now (rowed l.h l.rows) _ _ l.i c.next_place-i.result (omega arith) (omega arith) c.note_byte-h.ensures c.next_place-i.ensures l.invariant.2 in
    (t.1, t.2, t.3)

pub returns : goal.returns
returns c =
    let l = c.loop-i in
    let a = c.args in
    list-end a.s.now (rowed l.h l.rows) _ l.i (4 * (l.i - 8)) (omega arith) l.invariant.2
