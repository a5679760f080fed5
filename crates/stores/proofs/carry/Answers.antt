-- `stores::carry` meets its contract. The invariant: the stores that are left have room, and carrying them out gives the result. Assumes nothing.
use mathlib.Core.Path.{refl, sym, ◌∙◌}
use Prim.Native.Nat.{◌<◌}
use native.Mathlib.Omega.{arith}
use lib.ListN.{length}
use Rattle.world.specs.World.{files_of}
use Rattle.stores.specs.Plans.{steps_of}
use Rattle.stores.proofs.RoomLaws.{carry-end, carry-room, carry-next, carry-turn}
use Rattle.stores.proofs.carry.Goals as goal

pub loop-i-init : goal.loop-i-init
loop-i-init c = (refl, refl, refl, c.requires, refl)

pub apply_step-at-requires : goal.apply_step-at-requires
apply_step-at-requires c =
    let a = c.args in
    let l = c.loop-i in
    let t = c.step_at-s in
    let here : c.loop-i.i < length (steps_of c.args.plan) = omega arith in
    carry-room 4096 a.frames.now a.plan l.i a.k (files_of c.loop-i.at c.loop-i.log c.loop-i.db c.loop-i.clog) t.result here t.ensures l.invariant.3

pub loop-i-preserved : goal.loop-i-preserved
loop-i-preserved c =
    let k = c.apply_step-at in
    let t = c.step_at-s in
    let here : c.loop-i.i < length (steps_of c.args.plan) = omega arith in
    let asked : c.loop-i.i < c.args.k = omega arith in
    let a = c.args in
    let l = c.loop-i in (
      k.auto.log ∙ l.invariant.0,
      k.auto.db ∙ l.invariant.1,
      k.auto.clog ∙ l.invariant.2,
      carry-next 4096 a.frames.now a.plan l.i a.k (files_of c.loop-i.at c.loop-i.log c.loop-i.db c.loop-i.clog) t.result here t.ensures (files_of k.result k.new.log k.new.db k.new.clog) l.invariant.3 k.ensures,
      carry-turn 4096 a.frames.now a.plan l.i a.k (files_of c.loop-i.at c.loop-i.log c.loop-i.db c.loop-i.clog) t.result here t.ensures (files_of k.result k.new.log k.new.db k.new.clog) asked k.ensures ∙ l.invariant.4,
    )

pub shape_of-log : goal.shape_of-log
shape_of-log c = c.loop-i.invariant.0

pub shape_of-db : goal.shape_of-db
shape_of-db c = c.loop-i.invariant.1

pub shape_of-clog : goal.shape_of-clog
shape_of-clog c = c.loop-i.invariant.2

pub returns : goal.returns
returns c =
    let l = c.loop-i in
    let a = c.args in
    sym (carry-end 4096 a.frames.now a.plan l.i a.k (files_of c.loop-i.at c.loop-i.log c.loop-i.db c.loop-i.clog) (omega arith)) ∙ l.invariant.4
