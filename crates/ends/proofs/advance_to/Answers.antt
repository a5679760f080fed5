-- `ends::advance_to` meets its contract: refused, or made ready and cut. Assumes nothing.
use Rattle.world.specs.Calls.{Advance}
use Rattle.lent.specs.Lent.{lent}
use Rattle.acts.proofs.Laws.{refused-cut, accepted-cut}
use Rattle.ends.proofs.advance_to.Goals as goal

pub returns-in_err-m : goal.returns-in_err-m
returns-in_err-m c =
    let a = c.args in
    refused-cut 4096 (Advance a.mark) (lent a.h a.rows.now a.resident.now a.touched.now) a.log.now a.db.now a.clog.now a.frames.now c.in_err-m.field-0.0 c.in_err-m.ensures a.k _ c.from_residual.ensures

pub returns : goal.returns
returns c =
    let a = c.args in
    let k = c.cut_at in
    accepted-cut 4096 (Advance a.mark) (lent a.h a.rows.now a.resident.now a.touched.now) a.log.now a.db.now a.clog.now a.frames.now c.in_ok-m.m c.in_ok-m.ensures a.k k.result k.new.log k.new.db k.new.clog k.ensures
