-- `ends::commit_ending` meets its contract. Assumes nothing.
use Rattle.fields.specs.Refusals.{number_in}
use Rattle.ends.proofs.Committed.{commit-ending}
use Rattle.ends.proofs.commit_ending.Goals as goal

pub returns : goal.returns
returns c =
    let a = c.args in
    commit-ending a.h a.rows.now a.resident.now a.touched.now c.counters_of-m.result c.commit_plan-plan.result (number_in c.check_table-full.result) c.next_time-after.result
    c.with_end-head.result c.none-back.result c.counters_of-m.ensures c.commit_plan-plan.ensures c.check_table-full.ensures c.next_time-after.ensures c.with_end-head.ensures
    c.none-back.ensures
