-- `settle::rollback_count` meets its contract: refused, or made ready and counted. Assumes nothing.
use Rattle.world.specs.Calls.{Rollback}
use Rattle.fields.proofs.AnswerLaws.{handed-on}
use Rattle.ready.proofs.Prepared.{accepted-count, refused-count}
use Rattle.settle.proofs.rollback_count.Goals as goal

pub returns-in_err-r : goal.returns-in_err-r
returns-in_err-r c =
    let a = c.args in
    refused-count 4096 (Rollback a.list.now) a.s a.log.now a.db.now a.clog.now a.frames.now c.in_err-r.field-0.0 c.in_err-r.ensures c.from_residual.result (handed-on _ _ c.from_residual.ensures)

pub returns : goal.returns
returns c =
    let a = c.args in
    accepted-count 4096 (Rollback a.list.now) a.s a.log.now a.db.now a.clog.now a.frames.now c.in_ok-r.r c.in_ok-r.ensures c.count_of.result c.count_of.ensures
