-- `acts::give_back` meets its contract: after turn i the first i pages have their bytes back. Assumes nothing.
use mathlib.Core.Path.{◌≡◌, refl, ap, ◌∙◌}
use Prim.Native.Nat.{ℕ, min}
use native.Mathlib.Omega.{arith}
use Rattle.fields.specs.Files.{file_of}
use Rattle.ready.specs.Ready.{refill_to}
use Rattle.ready.proofs.Prepared.{refill-turn, refill-start}
use Rattle.acts.proofs.give_back.Goals as goal

pub loop-i-init : goal.loop-i-init
loop-i-init c = let a = c.args in (refl, refill-start 4096 _ a.x a.frames.now)

pub loop-i-preserved : goal.loop-i-preserved
loop-i-preserved c =
    let a = c.args in
    let l = c.loop-i in
    let k = c.fill_frame in
    (k.auto.buf ∙ l.invariant.0, refill-turn 4096 _ a.x l.i a.frames.now l.frames k.new.buf l.invariant.1 k.ensures)

pub returns : goal.returns
returns c =
    let a = c.args in
    let l = c.loop-i in
    let e : l.i ≡ min a.x.n 64 = omega arith in
    l.invariant.1 ∙ ap (λ (j : ℕ). refill_to 4096 (file_of a.db.now a.len) a.x j a.frames.now) e
