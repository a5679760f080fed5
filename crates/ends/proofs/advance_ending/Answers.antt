-- `ends::advance_ending` meets its contract. Assumes nothing.
use Rattle.ends.proofs.Advanced.{advance-ending}
use Rattle.ends.proofs.advance_ending.Goals as goal

pub returns : goal.returns
returns c =
    let a = c.args in
    advance-ending a.h a.mark c.counters_of-m.result c.advance_plan-plan.result c.with_mark-head.result c.none-back.result
    c.counters_of-m.ensures c.advance_plan-plan.ensures c.with_mark-head.ensures c.none-back.ensures
