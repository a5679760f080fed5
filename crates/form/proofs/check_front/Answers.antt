-- `form::check_front` meets its contract: 1 by `buffers_bad`, then 14 by `store_bad`. Assumes nothing.
use Rattle.form.proofs.Front.{front-is}
use Rattle.form.proofs.check_front.Goals as goal

pub returns-then-buffers_bad : goal.returns-then-buffers_bad
returns-then-buffers_bad c =
    let a = c.args in
    rw (front-is 4096 a.s a.log.now a.db.now a.clog.now a.frames.now, ← c.buffers_bad.ensures, c.if-buffers_bad.true)

pub returns-then-store_bad : goal.returns-then-store_bad
returns-then-store_bad c =
    let a = c.args in
    rw (
      front-is 4096 a.s a.log.now a.db.now a.clog.now a.frames.now,
      ← c.buffers_bad.ensures,
      c.if-buffers_bad.false,
      ← c.store_bad.ensures,
      c.if-store_bad.true,
    )

pub returns : goal.returns
returns c =
    let a = c.args in
    rw (
      front-is 4096 a.s a.log.now a.db.now a.clog.now a.frames.now,
      ← c.buffers_bad.ensures,
      c.if-buffers_bad.false,
      ← c.store_bad.ensures,
      c.if-store_bad.false,
    )
