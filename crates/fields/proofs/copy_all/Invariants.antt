-- `fields::copy_all` meets its contract: what is left to store, stored, gives the source. Assumes nothing.
use mathlib.Core.Path.{◌≡◌}
use lib.ListN.{drop}
use lib.Seq.{sets}
use Rattle.fields.proofs.copy_all.Given as goal

abbrev pub invariant-loop-i : goal.invariant-loop-i
invariant-loop-i g l = sets l.dst l.i (drop l.i l.src) ≡ l.src
