-- `form::store_bad` meets its contract: its tests are those of `form-is`. Assumes nothing.
use Rattle.std.proofs.Common.{rules, arith}
use Rattle.sorted.proofs.Laws.{length-of-mapped}
use Rattle.form.proofs.Front.{form-is}
use Rattle.form.proofs.store_bad.Goals as goal

pub returns-then-not-touched_formed : goal.returns-then-not-touched_formed
returns-then-not-touched_formed c =
    let e = form-is 4096 c.args.s c.args.size (record { entries = search (rules, length-of-mapped); pages = search rules; touched = search rules }) in
    grind (arith, e)

pub returns-else-not-touched_formed : goal.returns-else-not-touched_formed
returns-else-not-touched_formed c =
    let e = form-is 4096 c.args.s c.args.size (record { entries = search (rules, length-of-mapped); pages = search rules; touched = search rules }) in
    grind (arith, e)
