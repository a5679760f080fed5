-- `lent::is_bad` meets its contract: its tests are those of `bad-tests`. Assumes nothing.
use Rattle.std.proofs.Common.{rules, arith}
use Rattle.lent.specs.Lent.{lent}
use Rattle.lent.proofs.Laws.{bad-tests}
use Rattle.lent.proofs.is_bad.Goals as goal

pub returns-then-not-touched_formed : goal.returns-then-not-touched_formed
returns-then-not-touched_formed c =
    let a = c.args in
    let e = bad-tests (lent a.h a.rows.now a.resident.now a.touched.now) (record { rows = search rules; resident = search rules; touched = search rules }) 4096 a.size in
    grind (arith, e)

pub returns-else-not-touched_formed : goal.returns-else-not-touched_formed
returns-else-not-touched_formed c =
    let a = c.args in
    let e = bad-tests (lent a.h a.rows.now a.resident.now a.touched.now) (record { rows = search rules; resident = search rules; touched = search rules }) 4096 a.size in
    grind (arith, e)
