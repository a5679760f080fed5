-- `stores::lay_frame` meets its contract: a whole frame is lent as it stands, another is copied out first. Assumes nothing.
use Rattle.stores.proofs.StepLaws.{whole-frame}
use lib.Seq.{sets}
use native.Mathlib.Omega.{arith}
use Prim.Native.Nat.{ℕ, ◌+◌, ◌-◌, ◌*◌}
use mathlib.Core.List.{List}
use mathlib.Core.Path.{ap, ◌∙◌}
use Rattle.stores.proofs.lay_frame.Goals as goal

pub returns-then-slot-frames : goal.returns-then-slot-frames
returns-then-slot-frames c =
    let k = c.lay in
    let a = c.args in
    whole-frame 4096 a.b.now a.frames.now a.at a.slot (a.slot * 4096 + 4096 - a.slot * 4096) k.new.b (omega arith) (omega arith) k.ensures

pub returns : goal.returns
returns c =
    let k = c.lay-2 in
    let a = c.args in
    k.ensures ∙ ap (λ (ys : List ℕ). sets a.b.now a.at ys) c.frame_of-bytes.ensures
