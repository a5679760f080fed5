-- `seats::is_climbing` meets its contract: the library's test for order, with strict comparison, is the test for ascending pages. Assumes nothing.
use borrow.Author.Rules.{rules, of_calls}
use lib.Dec.{ltb}
use Rattle.std.proofs.lemmas.List.Sorted.{answers_always}
use Rattle.sorted.proofs.Laws.{ascending-adjacent}
use Rattle.frames.specs.Pages.{number}
use Rattle.seats.proofs.is_climbing.Goals as goal

pub returns : goal.returns
returns c =
    ascending-adjacent number 0 c.args.pages.now c.is_sorted_by.result
    (c.is_sorted_by.ensures.cases (λ x y. ltb x y) (answers_always _ _ _ (λ f a r g h. search (rules, of_calls))))
