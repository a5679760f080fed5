-- `gathers::pick_in` meets its contract: after turn i the first i touched pages are dealt with. Assumes nothing.
use mathlib.Core.Path.{◌≡◌, refl, ap, ◌∙◌}
use mathlib.Core.List.{List}
use Prim.Native.Nat.{ℕ, ◌<◌}
use native.Mathlib.Omega.{arith}
use borrow.Author.Rules.{rules}
use lib.ListN.{length, length-take, take, get_or}
use Rattle.std.proofs.lemmas.List.{take_all}
use Rattle.sorted.proofs.Laws.{take_min}
use Rattle.frames.specs.Pages.{found_in}
use Rattle.picks.specs.Picks.{wants, seats_of, chosen, picked_of}
use Rattle.picks.proofs.Laws.{picked_none, picked-small, picked-turn}
use Rattle.gathers.proofs.pick_in.Goals as goal

pub loop-page-init : goal.loop-page-init
loop-page-init c =
    let a = c.args in
    c.none-p.ensures ∙ picked_none 64 a.which a.list.now (take a.f a.resident.now) (take c.min-n.result a.touched.now)

pub with_touched-p-requires : goal.with_touched-p-requires
with_touched-p-requires c =
    let a = c.args in
    let l = c.loop-page in
    let ts = take c.min-n.result a.touched.now in
    let m : length ts < 65 = omega (arith, length-take {A = ℕ}) in
    omega (arith, picked-small 64 a.which a.list.now (take a.f a.resident.now) ts l.page-index l.p l.invariant)

pub loop-page-preserved : goal.loop-page-preserved
loop-page-preserved c =
    let a = c.args in
    let l = c.loop-page in
    let ts = take c.min-n.result a.touched.now in
    let x = get_or ts l.page-index 0 in
    picked-turn 64 a.which a.list.now (take a.f a.resident.now) ts l.page-index l.p l.invariant _
    (wants a.which a.list.now x) (found_in x (take a.f a.resident.now)) (omega arith) (omega (arith, length-take {A = ℕ})) refl refl c.with_touched-p.ensures

pub returns : goal.returns
returns c =
    let a = c.args in
    let all : take c.min-n.result a.touched.now ≡ take a.t a.touched.now =
    ap (λ (k : ℕ). take k a.touched.now) c.min-n.ensures ∙ take_min a.touched.now a.t 64 (search rules) in
    c.loop-page.invariant
    ∙ ap (λ (ps : List ℕ). picked_of 64 (seats_of (take a.f a.resident.now) (chosen a.which a.list.now (take a.f a.resident.now) ps))) (take_all _ _ c.loop-page-test.false ∙ all)
