-- `table::settle_all` meets its contract. The loop's invariant: the entries that were passed are settled, the others are as they were. Assumes nothing.
use mathlib.Core.Path.{◌∙◌}
use mathlib.Core.List.{append-nil}
use native.Mathlib.Omega.{arith}
use lib.ListN.{drop_of_length-le}
use lib.Seq.{take_all}
use Rattle.sorted.proofs.Laws.{map-step}
use Rattle.table.specs.Entries.{settled_entry, blank}
use Rattle.table.proofs.settle_all.Goals as goal

pub loop-e-preserved : goal.loop-e-preserved
loop-e-preserved c =
    let l = c.loop-e in
    map-step settled_entry c.args.entries.now l.entries l.e-index blank _ l.invariant (rw c.settled_status-e.ensures) (omega arith)

pub returns : goal.returns
returns c =
    let l = c.loop-e in
    l.invariant ∙ rw (take_all l.e-index c.args.entries.now c.loop-e-test.false, drop_of_length-le c.args.entries.now {i = l.e-index} c.loop-e-test.false) (append-nil _)
