-- `leaves::tell_read` meets its contract, by cases. Assumes nothing.
use Rattle.std.proofs.Common.{ap, ◌∙◌, [], ◌∷◌}
use Rattle.words.specs.Values.{said, four}
use Rattle.leaves.specs.Leaves.{said_by}
use Rattle.leaves.proofs.tell_read.Goals as goal

pub returns-in-Found : goal.returns-in-Found
returns-in-Found c = rw c.in-Found.is c.tell_record.ensures

pub returns-in-End : goal.returns-in-End
unfolding said_by four
returns-in-End c = rw c.in-End.is c.put.ensures

pub returns-in-Torn : goal.returns-in-Torn
unfolding said_by four
returns-in-Torn c = rw c.in-Torn.is (c.put-in-Torn.ensures ∙ ap (λ n. said n (c.in-Torn.missing ∷ 0 ∷ 0 ∷ 0 ∷ [])) c.number.ensures)

pub returns-in-Unknown : goal.returns-in-Unknown
unfolding said_by four
returns-in-Unknown c = rw c.in-Unknown.is (c.put-in-Unknown.ensures ∙ ap (λ n. said n (0 ∷ 0 ∷ 0 ∷ 0 ∷ [])) c.number-in-Unknown.ensures)

pub returns-in-Outside : goal.returns-in-Outside
unfolding said_by four
returns-in-Outside c = rw c.in-Outside.is (c.put-in-Outside.ensures ∙ ap (λ n. said n (0 ∷ 0 ∷ 0 ∷ 0 ∷ [])) c.number-in-Outside.ensures)
