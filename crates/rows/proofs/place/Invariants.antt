-- `rows::place` meets its contract. The loop's invariant: the place is what was passed and the place in what is left. Assumes nothing.
use Prim.Native.Nat.{◌+◌}
use mathlib.Core.Path.{◌≡◌}
use lib.ListN.{drop}
use Rattle.rows.specs.Inside.{place_of}
use Rattle.rows.proofs.place.Given as goal

abbrev pub invariant-loop-i : goal.invariant-loop-i
invariant-loop-i l = place_of l.id.0 l.rows ≡ l.i + place_of l.id.0 (drop l.i l.rows)
