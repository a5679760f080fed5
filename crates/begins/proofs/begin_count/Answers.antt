-- `begins::begin_count` meets its contract: refused, or made ready and counted. Assumes nothing.
use Rattle.world.specs.Calls.{Begin}
use Rattle.lent.specs.Lent.{lent}
use Rattle.acts.proofs.Laws.{refused-count, accepted-count}
use Rattle.begins.proofs.begin_count.Goals as goal

pub returns-in_err-m : goal.returns-in_err-m
returns-in_err-m c =
    let a = c.args in
    refused-count 4096 (Begin a.id) (lent a.h a.rows.now a.resident.now a.touched.now) a.log.now a.db.now a.clog.now a.frames.now c.in_err-m.field-0.0 c.in_err-m.ensures _ c.from_residual.ensures

pub returns : goal.returns
returns c =
    let a = c.args in
    accepted-count 4096 (Begin a.id) (lent a.h a.rows.now a.resident.now a.touched.now) a.log.now a.db.now a.clog.now a.frames.now c.in_ok-m.m c.in_ok-m.ensures c.count_of.result c.count_of.ensures
