-- `picks::pick` meets its contract: after turn i the first i touched pages are dealt with. Assumes nothing.
use mathlib.Core.Path.{◌≡◌, ap, ◌∙◌}
use mathlib.Core.List.{List}
use Prim.Native.Nat.{ℕ, ◌<◌}
use native.Mathlib.Omega.{arith}
use borrow.Author.Rules.{rules}
use lib.ListN.{length, length-take, take}
use Rattle.std.proofs.lemmas.List.{take_all}
use Rattle.sorted.proofs.Laws.{take_min}
use Rattle.frames.specs.Pages.{resident_of, touched_of}
use Rattle.picks.specs.Picks.{seats_of, chosen, picked_of}
use Rattle.picks.proofs.Laws.{picked_none, picked-small, picked-turn}
use Rattle.picks.proofs.pick.Goals as goal

pub loop-page-init : goal.loop-page-init
loop-page-init c =
    let a = c.args in
    c.none-p.ensures ∙ picked_none 64 a.which a.list.now (resident_of a.f) (take c.min-n.result a.t.pages)

pub with_page-p-requires : goal.with_page-p-requires
with_page-p-requires c =
    let a = c.args in
    let l = c.loop-page in
    let ts = take c.min-n.result a.t.pages in
    let m : length ts < 65 = omega (arith, length-take {A = ℕ}) in
    omega (arith, picked-small 64 a.which a.list.now (resident_of a.f) ts l.page-index l.p l.invariant)

pub loop-page-preserved : goal.loop-page-preserved
loop-page-preserved c =
    let a = c.args in
    let l = c.loop-page in
    let ts = take c.min-n.result a.t.pages in
    picked-turn 64 a.which a.list.now (resident_of a.f) ts l.page-index l.p l.invariant _ _ _ (omega arith) (omega (arith, length-take {A = ℕ}))
    c.wanted-want.ensures c.find-place.ensures c.with_page-p.ensures

pub returns : goal.returns
returns c =
    let a = c.args in
    let all : take c.min-n.result a.t.pages ≡ touched_of a.t = ap (λ (k : ℕ). take k a.t.pages) c.min-n.ensures ∙ take_min a.t.pages a.t.count 64 (search rules) in
    c.loop-page.invariant
    ∙ ap (λ (ps : List ℕ). picked_of 64 (seats_of (resident_of a.f) (chosen a.which a.list.now (resident_of a.f) ps))) (take_all _ _ c.loop-page-test.false ∙ all)
