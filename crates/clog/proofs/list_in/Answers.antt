-- `clog::list_in` meets its contract. The loop's invariant: pushing the entries that are left gives what pushing all gives,
-- and there is room for them. The measure is how many slots are left. Assumes nothing.
use Prim.Native.Nat.{◌+◌, ◌/◌}
use native.Mathlib.Omega.{arith}
use lib.ListN.{drop, get_or}
use Rattle.clog.specs.Slots.{codes, entries_in}
use Rattle.clog.proofs.Codes.{stride-turn, stride-small, slots-done, slots-room, list-begin, list-turn, list_done}
use Rattle.clog.proofs.list_in.Goals as goal

pub loop-k-init : goal.loop-k-init
unfolding entries_in
loop-k-init c =
    let a = c.args in
    let b = list-begin 256 a.base (codes (drop a.h a.s.now)) c.empty-t.result c.empty-t.ensures c.requires.3 in
    (omega arith, b.0, b.1, b.2)

pub push_slot-t-requires : goal.push_slot-t-requires
push_slot-t-requires c =
    let l = c.loop-k in
    let a = c.args in
    slots-room 256 l.t.count a.h a.s.now l.k a.base c.slot_at-c.result (omega arith) c.slot_at-c.ensures.0 l.invariant.2

pub overflow_add-k : goal.overflow_add-k
overflow_add-k c =
    let l = c.loop-k in
    let a = c.args in
    let st = stride-small (get_or a.s.now (a.h + l.k / 4) 0) l.k in
    omega (arith, c.stride-k.ensures)

pub loop-k-smaller : goal.loop-k-smaller
loop-k-smaller c =
    let l = c.loop-k in
    let a = c.args in
    let st = stride-small (get_or a.s.now (a.h + l.k / 4) 0) l.k in
    omega (arith, c.stride-k.ensures)

pub loop-k-preserved : goal.loop-k-preserved
loop-k-preserved c =
    let l = c.loop-k in
    let a = c.args in
    let st = stride-small (get_or a.s.now (a.h + l.k / 4) 0) l.k in
    let q = c.stride-k.ensures in
    let s = c.slot_at-c in
    let p = c.push_slot-t in
    let e = stride-turn a.h a.s.now l.k a.base s.result c.stride-k.result (omega arith) s.ensures.0 c.stride-k.ensures in
    let b = list-turn 256 l.t p.result _ _ _ _ e p.ensures l.invariant.1 l.invariant.2 l.invariant.3 in
    (omega arith, b.0, b.1, b.2)

pub returns : goal.returns
unfolding entries_in
returns c =
    let l = c.loop-k in
    let a = c.args in
    list_done 256 l.t _ _ (slots-done a.h a.s.now l.k (a.base + l.k) (omega arith)) l.invariant.3 c.requires.3
