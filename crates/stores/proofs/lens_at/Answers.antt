-- `stores::lens_at` meets its contract. The invariant: what is told of the stores that are left is told of them all; the log's length stays small. Assumes nothing.
use mathlib.Core.Path.{◌≡◌, ap, ◌∙◌}
use mathlib.Core.List.{[], ◌∷◌}
use Prim.Native.Nat.{ℕ, ◌+◌, ◌-◌, ◌<◌}
use native.Mathlib.Omega.{arith}
use lib.ListN.{length, drop, get_or}
use Rattle.world.specs.declared.Lens.{Lens}
use Rattle.stores.specs.declared.Step.TheVariants.{Truncate}
use Rattle.stores.specs.Plans.{steps_of}
use Rattle.stores.specs.Told.{first_told}
use Rattle.stores.specs.Inside.{told_by, tell_steps}
use Rattle.stores.proofs.PlanLaws.{most-steps}
use Rattle.stores.proofs.TellLaws.{after-most, tell-turn, tell-here}
use Rattle.stores.proofs.lens_at.Goals as goal

pub loop-i-init : goal.loop-i-init
loop-i-init c =
    let a = c.args in
    let e : a.k - 0 ≡ a.k = omega arith in
    (omega arith, ap (λ (n : ℕ). drop n (tell_steps 4096 (steps_of a.plan) a.lens)) e)

pub lens_after-at-requires : goal.lens_after-at-requires
lens_after-at-requires c =
    let l = c.loop-i in
    omega (arith, l.invariant.0, c.requires.0, c.requires.1, most-steps c.args.plan, c.loop-i-test.true)

pub loop-i-preserved : goal.loop-i-preserved
loop-i-preserved c =
    let l = c.loop-i in
    let s = c.step_at-s in
    let k = c.lens_after-at in
    let ss = steps_of c.args.plan in
    let below : l.i < length (steps_of c.args.plan) = omega (arith, c.requires.0, c.loop-i-test.true) in (
      omega (arith, l.invariant.0, ap (λ (n : Lens). n.log) k.ensures, after-most 4096 s.result l.at),
      ap (λ (n : Lens). drop (c.args.k - (l.i + 1)) (tell_steps 4096 (drop (l.i + 1) ss) n)) k.ensures
          ∙ tell-turn 4096 ss l.i below c.args.k s.result l.at c.loop-i-test.true s.ensures
          ∙ l.invariant.1,
    )

pub returns : goal.returns
returns c =
    let l = c.loop-i in
    let ss = steps_of c.args.plan in
    let e : c.args.k ≡ l.i = omega arith in
    let below : l.i < length (steps_of c.args.plan) = omega (arith, c.requires.0) in
    ap (λ (j : ℕ). first_told (told_by 4096 (get_or ss j Truncate) l.at ∷ [])) e ∙ tell-here 4096 ss l.i below c.args.k l.at e ∙ ap first_told l.invariant.1
