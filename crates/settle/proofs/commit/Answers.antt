-- `settle::commit` meets its contract: refused, or made ready and carried out. Assumes nothing.
use Rattle.world.specs.Calls.{Commit}
use Rattle.fields.proofs.AnswerLaws.{handed-on}
use Rattle.ready.proofs.Prepared.{refused-called, accepted-called}
use Rattle.settle.proofs.commit.Goals as goal

pub returns-in_err-r : goal.returns-in_err-r
returns-in_err-r c =
    let a = c.args in
    refused-called 4096 Commit a.s a.log.now a.db.now a.clog.now a.frames.now c.in_err-r.field-0.0 c.in_err-r.ensures c.from_residual.result (handed-on _ _ c.from_residual.ensures)

pub returns : goal.returns
returns c =
    let a = c.args in
    let k = c.carry_out in
    accepted-called 4096 Commit a.s a.log.now a.db.now a.clog.now a.frames.now c.in_ok-r.r c.in_ok-r.ensures k.result k.new.log k.new.db k.new.clog k.new.frames k.ensures
