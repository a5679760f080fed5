-- `ends::rollback_ending` meets its contract. Assumes nothing.
use Rattle.fields.specs.Refusals.{number_in}
use Rattle.ends.proofs.RolledBack.{rollback-ending}
use Rattle.ends.proofs.rollback_ending.Goals as goal

pub returns : goal.returns
returns c =
    let a = c.args in
    rollback-ending a.list.now a.h a.rows.now a.resident.now a.touched.now c.counters_of-m.result c.rollback_plan-plan.result c.pick_in-back.result
    (number_in c.check_table-full.result) c.raised-pages.result c.with_end-head.result c.counters_of-m.ensures c.rollback_plan-plan.ensures c.pick_in-back.ensures c.check_table-full.ensures
    c.raised-pages.ensures c.with_end-head.ensures
