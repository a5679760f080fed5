-- `replay::lay_page` meets its contract: no bytes; past the buffer nothing is stored; and what the copy stored in the lent part is stored in the whole.
-- Assumes nothing.
use mathlib.Core.Path.{sym}
use Prim.Native.Nat.{◌*◌}
use native.Mathlib.Omega.{arith}
use borrow.Author.Rules.{rules}
use Rattle.fields.proofs.Stored.{sets-out, lent-tail}
use Rattle.replay.proofs.Laws.{no-page, whole-page}
use Rattle.replay.proofs.lay_page.Goals as goal

pub returns-then-n-eq0 : goal.returns-then-n-eq0
returns-then-n-eq0 c =
    let a = c.args in
    no-page 4096 a.page a.len a.bytes.now a.db.now c.if-n-eq0.true

pub returns-then-db-at : goal.returns-then-db-at
returns-then-db-at c =
    let a = c.args in
    let o = sym (sets-out a.bytes.now c.zero_fill.new.b (a.page * 4096) (omega arith)) in
    whole-page 4096 a.page a.len a.bytes.now a.db.now c.if-n-eq0.false c.zero_fill.new.b c.zero_fill.new.b c.max-end.result
    c.zero_fill.ensures o (search rules)

pub returns : goal.returns
returns c =
    let a = c.args in
    let k = c.copy in
    let o = lent-tail (a.page * 4096) c.zero_fill.new.b k.new.dst a.bytes.now (omega arith) k.ensures in
    whole-page 4096 a.page a.len a.bytes.now a.db.now c.if-n-eq0.false c.zero_fill.new.b _ c.max-end.result
    c.zero_fill.ensures o (search rules)
