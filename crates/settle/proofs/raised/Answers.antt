-- `settle::raised` meets its contract: after turn i the count is past the first i pages. Assumes nothing.
use mathlib.Core.Path.{ap, ◌∙◌}
use Prim.Native.Nat.{ℕ, ◌<◌}
use native.Mathlib.Omega.{arith}
use lib.ListN.{length-take}
use Rattle.std.proofs.lemmas.List.{get_or-take}
use Rattle.settle.specs.Inside.{past}
use Rattle.settle.proofs.GivenBack.{raised-start, raised-next}
use Rattle.settle.proofs.raised.Goals as goal

pub loop-page-init : goal.loop-page-init
loop-page-init c = raised-start c.args.x c.args.pages

pub loop-page-preserved : goal.loop-page-preserved
loop-page-preserved c =
    let l = c.loop-page in
    let x = c.args.x in
    let h : c.loop-page.page-index < c.min-k.result = omega (arith, length-take {A = ℕ}) in
    raised-next x l.page-index c.args.pages l.n c.past_page-n.result l.invariant (c.past_page-n.ensures ∙ ap (λ (p : ℕ). past p l.n) (get_or-take c.min-k.result x.pages l.page-index 0 h))
