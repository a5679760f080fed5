-- `table::place` meets its contract. The loop's invariant: the place is what was passed and the place in what is left. Assumes nothing.
use Prim.Native.Nat.{◌+◌}
use mathlib.Core.Path.{◌≡◌}
use lib.ListN.{drop}
use Rattle.table.specs.Inside.{place_of}
use Rattle.table.proofs.place.Given as goal

abbrev pub invariant-loop-i : goal.invariant-loop-i
invariant-loop-i l = place_of l.id.0 l.entries ≡ l.i + place_of l.id.0 (drop l.i l.entries)
