-- `meta::put_meta` meets its contract: past the end nothing is stored, and the page written in the lent part is written in the whole. Assumes nothing.
use mathlib.Core.Path.{sym}
use native.Mathlib.Omega.{arith}
use Rattle.fields.proofs.Stored.{sets-out, lent-tail}
use Rattle.meta.specs.Page.{meta_page}
use Rattle.meta.proofs.put_meta.Goals as goal

pub returns-then-buf-at : goal.returns-then-buf-at
returns-then-buf-at c = let a = c.args in sym (sets-out (meta_page 4096 a.m.next.0 a.m.time.0 a.m.mark.0) a.buf.now a.at (omega arith))

pub returns : goal.returns
returns c =
    let k = c.put_page in
    let a = c.args in
    lent-tail a.at a.buf.now k.new.b (meta_page 4096 a.m.next.0 a.m.time.0 a.m.mark.0) (omega arith) k.ensures
