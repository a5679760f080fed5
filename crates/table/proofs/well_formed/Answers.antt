-- `table::well_formed` meets its contract: the library's test for order, with strict comparison, is the test for ascending ids. Assumes nothing.
use borrow.Author.Rules.{rules, of_calls}
use Rattle.std.proofs.lemmas.List.Sorted.{answers_always}
use borrow.Author.Tests.{lt-leb, le-leb}
use lib.Dec.{ltb}
use Rattle.sorted.proofs.Laws.{ascending-adjacent}
use Rattle.table.specs.Entries.{well_formed, id_of, blank}
use Rattle.table.proofs.well_formed.Goals as goal

pub returns-else-t-le-LIMIT : goal.returns-else-t-le-LIMIT
unfolding well_formed
returns-else-t-le-LIMIT c = rw (lt-leb c.args.t.count 256 c.if-t-le-LIMIT.false)

pub returns-then-t-le-LIMIT : goal.returns-then-t-le-LIMIT
unfolding well_formed
returns-then-t-le-LIMIT c =
    rw (le-leb c.args.t.count 256 c.if-t-le-LIMIT.true, ← c.held.ensures.list)
    (ascending-adjacent id_of blank _ c.is_sorted_by.result
    (c.is_sorted_by.ensures.cases (λ x y. ltb (id_of x) (id_of y)) (answers_always _ _ _ (λ f a r g h. search (rules, of_calls)))))
