-- `rows::with_status` meets its contract: each of its three ways out is a law of proofs/Laws.antt. Assumes nothing.
use mathlib.Core.Path.{◌≡◌}
use native.Mathlib.Omega.{arith}
use borrow.Author.Rules.{rules}
use lib.ListN.{length}
use Rattle.fields.proofs.Lists.{shifted-part}
use Rattle.rows.proofs.Laws.{with-hit, with-full, with-new}
use Rattle.rows.proofs.with_status.Goals as goal
use Rattle.rows.proofs.with_status.Goals.{else-p-n-via-then-p-n+else-rows-p, else-p-n-via-else-p-n}

pub returns-then-rows-p : goal.returns-then-rows-p
returns-then-rows-p c =
    let a = c.args in
    let len : length a.rows.now ≡ 256 = search rules in
    rw c.row_of-x.ensures
    (with-hit 256 a.rows.now a.count (record { id = a.id; status = a.status }) _ c.place-p.result len c.held-list.ensures.len (rw c.held-list.ensures.list at c.place-p.ensures.is) (omega arith) c.if-rows-p.true)

pub returns-then-n-ge-LIMIT : goal.returns-then-n-ge-LIMIT
returns-then-n-ge-LIMIT c =
    let a = c.args in
    let len : length a.rows.now ≡ 256 = search rules in
    (with-full 256 a.rows.now a.count (record { id = a.id; status = a.status }) _ c.place-p.result len c.held-list.ensures.len (rw c.held-list.ensures.list at c.place-p.ensures.is) (λ h q. elim c.else-p-n.branch [ else-p-n-via-then-p-n+else-rows-p w ↦ w.if-rows-p.false q | else-p-n-via-else-p-n w ↦ omega arith ]) (omega arith))

pub returns : goal.returns
returns c =
    let a = c.args in
    let len : length a.rows.now ≡ 256 = search rules in
    with-new 256 a.rows.now a.count (record { id = a.id; status = a.status }) _ c.place-p.result len c.held-list.ensures.len (rw c.held-list.ensures.list at c.place-p.ensures.is) (λ h q. elim c.else-p-n.branch [ else-p-n-via-then-p-n+else-rows-p w ↦ w.if-rows-p.false q | else-p-n-via-else-p-n w ↦ omega arith ]) _
    (omega arith) (rw (c.shift_in.ensures, c.row_of-x.ensures) (shifted-part a.rows.now c.place-p.result _ _ c.place-p.ensures.bound (omega arith)))
