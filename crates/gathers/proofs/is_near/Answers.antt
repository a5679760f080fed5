-- `gathers::is_near` meets its contract: every element is below the number. Assumes nothing.
use Prim.Native.Nat.{◌<◌}
use native.Mathlib.Omega.{arith}
use Rattle.gathers.proofs.Laws.{far-in}
use borrow.Author.Rules.{rules}
use Rattle.gathers.proofs.is_near.Goals as goal

pub returns : goal.returns
returns c =
    let a = c.args in
    let big : 4294967295 < a.x = search rules in
    far-in a.x a.resident.now a.n (λ i p. omega (arith, (c.type_inv.resident i).fits))
