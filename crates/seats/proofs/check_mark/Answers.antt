-- `seats::check_mark` meets its contract: each of its three ways out is a law of proofs/Laws.antt. Assumes nothing.
use borrow.Author.Rules.{rules}
use Rattle.seats.proofs.Laws.{mark-there, mark-none, mark-next}
use Rattle.seats.specs.Seats.{mark_kept}
use mathlib.Core.Path.{◌≡◌, refl, ap}
use native.Mathlib.Omega.{arith}
use lib.ListN.{length}
use Rattle.seats.proofs.check_mark.Goals as goal
use Rattle.seats.proofs.check_mark.Goals.{else-p-m-via-then-p-m+else-touched-p, else-p-m-via-else-p-m}

pub returns-then-touched-p : goal.returns-then-touched-p
returns-then-touched-p c =
    let w = c.place-p in
    let h = c.held-m in
    let a = c.args in
    let len : length a.touched.now ≡ 64 = search rules in
    ap mark_kept (mark-there a.touched.now a.n h.result a.page w.result len h.ensures w.ensures.is c.if-p-m.true c.if-touched-p.true)

pub returns-then-m-ge-LIMIT : goal.returns-then-m-ge-LIMIT
returns-then-m-ge-LIMIT c =
    let w = c.place-p in
    let h = c.held-m in
    let a = c.args in
    let len : length a.touched.now ≡ 64 = search rules in
    (ap mark_kept (mark-none a.touched.now a.n h.result a.page w.result len h.ensures w.ensures.is (λ h q. elim c.else-p-m.branch [ else-p-m-via-then-p-m+else-touched-p w ↦ w.if-touched-p.false q | else-p-m-via-else-p-m w ↦ omega arith ]) c.if-m-ge-LIMIT.true))

pub returns : goal.returns
returns c =
    let w = c.place-p in
    let h = c.held-m in
    let a = c.args in
    let len : length a.touched.now ≡ 64 = search rules in
    ap mark_kept (mark-next a.touched.now a.n h.result a.page w.result len h.ensures w.ensures.is (λ h q. elim c.else-p-m.branch [ else-p-m-via-then-p-m+else-touched-p w ↦ w.if-touched-p.false q | else-p-m-via-else-p-m w ↦ omega arith ]) _ c.if-m-ge-LIMIT.false refl)
