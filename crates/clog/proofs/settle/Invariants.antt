-- `clog::settle` meets its contract. The loop's invariant: settling what is left gives what was asked for. Assumes nothing.
use mathlib.Core.Path.{◌≡◌}
use mathlib.Core.List.{map}
use lib.ListN.{drop}
use lib.Seq.{sets}
use Rattle.clog.specs.Slots.{settled_byte}
use Rattle.clog.proofs.settle.Given as goal

abbrev pub invariant-loop-b : goal.invariant-loop-b
invariant-loop-b l = sets l.body l.b-index (map settled_byte (drop l.b-index l.body)) ≡ map settled_byte l.initial.body
