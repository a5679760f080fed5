-- `xacts::has_slot` meets its contract. The loop's invariant: asking the slots that are left gives what was asked for; `left` is how many of them do not
-- count. Assumes nothing.
use mathlib.Core.Path.{◌≡◌}
use lib.ListN.{drop}
use Rattle.clog.specs.Slots.{codes}
use Rattle.xacts.specs.Calls.{has}
use Rattle.xacts.proofs.has_slot.Given as goal

abbrev pub invariant-loop-b : goal.invariant-loop-b
invariant-loop-b l = has l.c (drop l.left (codes (drop l.b-index l.s))) ≡ has l.c (drop l.w (codes l.s))
