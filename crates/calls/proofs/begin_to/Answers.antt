-- `calls::begin_to` meets its contract: refused, or made ready and cut. Assumes nothing.
use Rattle.world.specs.Calls.{Begin}
use Rattle.fields.proofs.AnswerLaws.{handed-on}
use Rattle.ready.proofs.Prepared.{refused-cut, accepted-cut}
use Rattle.calls.proofs.begin_to.Goals as goal

pub returns-in_err-r : goal.returns-in_err-r
returns-in_err-r c =
    let a = c.args in
    refused-cut 4096 (Begin a.id) a.s a.log.now a.db.now a.clog.now a.frames.now c.in_err-r.field-0.0 c.in_err-r.ensures a.k c.from_residual.result (handed-on _ _ c.from_residual.ensures)

pub returns : goal.returns
returns c =
    let a = c.args in
    let k = c.cut_at in
    accepted-cut 4096 (Begin a.id) a.s a.log.now a.db.now a.clog.now a.frames.now c.in_ok-r.r c.in_ok-r.ensures a.k k.result k.new.log k.new.db k.new.clog k.ensures
