-- `seats::lay` meets its contract: what is left to store, stored, gives what was asked for. Assumes nothing.
use mathlib.Core.Path.{◌≡◌}
use lib.ListN.{length, drop}
use lib.Seq.{sets}
use Rattle.seats.proofs.lay.Given as goal

abbrev pub invariant-loop-i : goal.invariant-loop-i
invariant-loop-i l = (length l.touched ≡ 64) × (sets l.touched l.i (drop l.i l.pages) ≡ sets l.initial.touched 0 l.pages)
