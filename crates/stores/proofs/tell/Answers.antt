-- `stores::tell` meets its contract: no store, or the one that is asked for. Assumes nothing.
use Rattle.stores.proofs.TellLaws.{told-long, told-zero, told-store, told-past}
use Rattle.stores.specs.Told.{first_told}
use Rattle.stores.specs.Inside.{told_by}
use Rattle.stores.specs.declared.Step.{Step}
use lib.Dec.{lit≤}
use native.Mathlib.Omega.{arith}
use Prim.Native.Nat.{◌-◌}
use mathlib.Core.List.{[], ◌∷◌}
use mathlib.Core.Path.{ap, ◌∙◌}
use Rattle.stores.proofs.tell.Goals as goal

pub returns-then-lens-gt-BUFFER_LIMIT : goal.returns-then-lens-gt-BUFFER_LIMIT
returns-then-lens-gt-BUFFER_LIMIT c =
    let a = c.args in
    told-long 4096 (lit≤ tt) a.plan a.k a.lens (omega arith)

pub returns-then-k-eq0 : goal.returns-then-k-eq0
returns-then-k-eq0 c =
    let a = c.args in
    told-zero 4096 (lit≤ tt) a.plan a.k a.lens (omega arith) (omega arith)

pub returns-then-all-k : goal.returns-then-all-k
returns-then-all-k c =
    let a = c.args in
    told-past 4096 (lit≤ tt) a.plan a.k a.lens (omega arith) (a.k - 1) (omega arith) (omega (arith, c.count-all.ensures, c.if-all-k.true))

pub returns : goal.returns
returns c =
    let a = c.args in
    let l = c.lens_at-at in
    c.told_of.ensures
    ∙ ap (λ (s : Step). first_told (told_by 4096 s l.result ∷ [])) c.step_at-s.ensures
    ∙ l.ensures
    ∙ told-store 4096 (lit≤ tt) a.plan a.k a.lens (omega arith) (a.k - 1) (omega arith)
