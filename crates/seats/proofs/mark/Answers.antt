-- `seats::mark` meets its contract: each of its three ways out is a law of proofs/Laws.antt. Assumes nothing.
use borrow.Author.Rules.{rules}
use Rattle.fields.proofs.Lists.{shifted-part}
use Rattle.seats.proofs.Laws.{mark-there, mark-none, mark-next}
use mathlib.Core.Path.{◌≡◌}
use native.Mathlib.Omega.{arith}
use lib.ListN.{length}
use Rattle.seats.proofs.mark.Goals as goal
use Rattle.seats.proofs.mark.Goals.{else-p-m-via-then-p-m+else-touched-p, else-p-m-via-else-p-m}

pub returns-then-touched-p : goal.returns-then-touched-p
returns-then-touched-p c =
    let w = c.place-p in
    let h = c.held-m in
    let a = c.args in
    let len : length a.touched.now ≡ 64 = search rules in
    mark-there a.touched.now a.n h.result a.page w.result len h.ensures w.ensures.is c.if-p-m.true c.if-touched-p.true

pub returns-then-m-ge-LIMIT : goal.returns-then-m-ge-LIMIT
returns-then-m-ge-LIMIT c =
    let w = c.place-p in
    let h = c.held-m in
    let a = c.args in
    let len : length a.touched.now ≡ 64 = search rules in
    (mark-none a.touched.now a.n h.result a.page w.result len h.ensures w.ensures.is (λ h q. elim c.else-p-m.branch [ else-p-m-via-then-p-m+else-touched-p w ↦ w.if-touched-p.false q | else-p-m-via-else-p-m w ↦ omega arith ]) c.if-m-ge-LIMIT.true)

pub returns : goal.returns
returns c =
    let w = c.place-p in
    let h = c.held-m in
    let a = c.args in
    let len : length a.touched.now ≡ 64 = search rules in
    mark-next a.touched.now a.n h.result a.page w.result len h.ensures w.ensures.is (λ h q. elim c.else-p-m.branch [ else-p-m-via-then-p-m+else-touched-p w ↦ w.if-touched-p.false q | else-p-m-via-else-p-m w ↦ omega arith ]) _ c.if-m-ge-LIMIT.false (rw c.shift_in.ensures (shifted-part a.touched.now w.result h.result _ (omega (arith, w.ensures.bound)) (omega arith)))
