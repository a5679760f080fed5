-- `calls::flush_told` meets its contract: refused, or made ready and told. Assumes nothing.
use native.Mathlib.Omega.{arith}
use Rattle.world.specs.Calls.{Flush}
use Rattle.fields.proofs.AnswerLaws.{handed-on}
use Rattle.ready.proofs.ToldLaws.{accepted-told, refused-told}
use Rattle.calls.proofs.flush_told.Goals as goal

pub returns-in_err-r : goal.returns-in_err-r
returns-in_err-r c =
    let a = c.args in
    refused-told 4096 (omega arith) a.k (Flush a.page) a.s a.log.now a.db.now a.clog.now a.frames.now c.in_err-r.field-0.0 c.from_residual.result c.in_err-r.ensures (handed-on _ _ c.from_residual.ensures)

pub returns : goal.returns
returns c =
    let a = c.args in
    accepted-told 4096 (omega arith) a.k (Flush a.page) a.s a.log.now a.db.now a.clog.now a.frames.now c.in_ok-r.r c.in_ok-r.ensures c.told_at.result c.told_at.ensures
