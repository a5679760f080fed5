-- `fields::lay` meets its contract: past the end nothing is stored, and what the copy stored in the lent part is stored in the whole. Assumes nothing.
use mathlib.Core.Path.{sym}
use native.Mathlib.Omega.{arith}
use Rattle.fields.proofs.Stored.{sets-out, lent-tail}
use Rattle.fields.proofs.lay.Goals as goal

pub returns-then-b-at : goal.returns-then-b-at
returns-then-b-at c =
    let a = c.args in
    sym (sets-out a.src.now a.b.now a.at (omega arith))

pub returns : goal.returns
returns c =
    let k = c.copy in
    let a = c.args in
    lent-tail a.at a.b.now k.new.dst a.src.now (omega arith) k.ensures
