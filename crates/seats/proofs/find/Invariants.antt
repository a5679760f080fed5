-- `seats::find` meets its contract. The loop's invariant: what was passed does not hold the page, so that it stands in what is left or nowhere.
-- Assumes nothing.
use mathlib.Core.Path.{◌≡◌}
use Prim.Native.Nat.{◌+◌}
use lib.ListN.{drop}
use Rattle.frames.specs.Pages.{is_in, slot_of}
use Rattle.seats.proofs.find.Given as goal

abbrev pub invariant-loop-slot : goal.invariant-loop-slot
invariant-loop-slot l = (is_in l.page l.x-items ≡ is_in l.page (drop l.slot l.x-items)) × (slot_of l.page l.x-items ≡ l.slot + slot_of l.page (drop l.slot l.x-items))
