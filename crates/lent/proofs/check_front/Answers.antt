-- `lent::check_front` meets its contract: 1, then 14. Assumes nothing.
use Rattle.lent.specs.Lent.{lent}
use Rattle.lent.proofs.Laws.{front-all}
use Rattle.lent.proofs.check_front.Goals as goal

pub returns-then-buffers_bad : goal.returns-then-buffers_bad
returns-then-buffers_bad c =
    let a = c.args in
    let s = lent a.h a.rows.now a.resident.now a.touched.now in
    rw (
      front-all 4096 s a.log.now a.db.now a.clog.now a.frames.now,
      ← c.buffers_bad.ensures,
      c.if-buffers_bad.true,
    )

pub returns-then-is_bad : goal.returns-then-is_bad
returns-then-is_bad c =
    let a = c.args in
    let s = lent a.h a.rows.now a.resident.now a.touched.now in
    rw (
      front-all 4096 s a.log.now a.db.now a.clog.now a.frames.now,
      ← c.buffers_bad.ensures,
      c.if-buffers_bad.false,
      ← c.is_bad.ensures,
      c.if-is_bad.true,
    )

pub returns : goal.returns
returns c =
    let a = c.args in
    let s = lent a.h a.rows.now a.resident.now a.touched.now in
    rw (
      front-all 4096 s a.log.now a.db.now a.clog.now a.frames.now,
      ← c.buffers_bad.ensures,
      c.if-buffers_bad.false,
      ← c.is_bad.ensures,
      c.if-is_bad.false,
    )
