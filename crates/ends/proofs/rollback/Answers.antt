-- `ends::rollback` meets its contract: refused, or made ready and carried out. Assumes nothing.
use mathlib.Core.Path.{refl}
use Rattle.std.specs.Prelude.{Err}
use Rattle.world.specs.Calls.{Rollback}
use Rattle.lent.specs.Lent.{lent}
use Rattle.acts.proofs.Laws.{accepted-out, refused-left}
use Rattle.ends.proofs.rollback.Goals as goal

pub returns-in-Err : goal.returns-in-Err
returns-in-Err c =
    let a = c.args in
    refused-left 4096 (Rollback a.list.now) (lent a.h a.rows.now a.resident.now a.touched.now) a.log.now a.db.now a.clog.now a.frames.now c.in-Err.r c.in-Err.ensures (Err c.in-Err.r) (refl, refl)

pub returns-in-Ok : goal.returns-in-Ok
returns-in-Ok c =
    let a = c.args in
    accepted-out 4096 (Rollback a.list.now) (lent a.h a.rows.now a.resident.now a.touched.now) a.log.now a.db.now a.clog.now a.frames.now c.in-Ok.m c.in-Ok.ensures _ c.carry_out.ensures
