-- `leaves::hand_load` meets its contract: the entries laid and counted, or the refusal and the rows as they were. Assumes nothing.
use Rattle.std.proofs.Common.{ap}
use Rattle.fields.specs.Answers.{Told}
use Rattle.table.specs.Entries.{empty_table}
use Rattle.words.specs.Values.{four}
use Rattle.leaves.specs.Leaves.{handed_by}
use Rattle.leaves.proofs.hand_load.Goals as goal

pub returns-in-Ok : goal.returns-in-Ok
unfolding handed_by four
returns-in-Ok c = λ b. rw (c.in-Ok.is, ← c.lay_table.ensures) (ap (λ (t : Told). record { told = t; clog = b; rows = c.lay_table.new.rows }) c.put.ensures)

pub returns-in-Err : goal.returns-in-Err
unfolding handed_by four empty_table
returns-in-Err c = λ b. rw (c.in-Err.is, ← c.number.ensures) (ap (λ (t : Told). record { told = t; clog = b; rows = c.args.rows.now }) c.put-in-Err.ensures)
