-- `xacts::read_body` meets its contract. The loop's invariant: writing what is left gives what was asked for. Assumes nothing.
use mathlib.Core.Path.{◌≡◌}
use Prim.Native.Nat.{◌*◌}
use lib.ListN.{length, drop}
use lib.Seq.{sets}
use Rattle.xacts.specs.Pages.{read_as, remade}
use Rattle.xacts.proofs.read_body.Given as goal

abbrev pub invariant-loop-i : goal.invariant-loop-i
invariant-loop-i l = (length l.out ≡ length l.initial.out) × (sets l.out l.i (remade (λ t c. read_as c) (4 * l.i) (drop l.i l.pages)) ≡ sets l.initial.out 0 (remade (λ t c. read_as c) 0 l.pages))
