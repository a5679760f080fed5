-- `frames::mark` meets its contract: each of its three ways out is a law of proofs/Values.antt. Assumes nothing.
use mathlib.Core.Path.{◌≡◌}
use native.Mathlib.Omega.{arith}
use borrow.Author.Rules.{rules}
use lib.ListN.{length}
use Rattle.fields.proofs.Lists.{shifted-part}
use Rattle.frames.proofs.Values.{mark-hit, mark-over, mark-new}
use Rattle.frames.proofs.mark.Goals as goal
use Rattle.frames.proofs.mark.Goals.{else-p-n-via-then-p-n+else-pages-p, else-p-n-via-else-p-n}

pub returns-then-pages-p : goal.returns-then-pages-p
returns-then-pages-p c =
    let a = c.args in
    let h = c.held-list.ensures in
    let len : length a.t.pages ≡ 64 = search rules in
    mark-hit 64 a.t a.page _ c.count_below-p.result len h.len (rw h.list at c.count_below-p.ensures.is) c.if-p-n.true c.if-pages-p.true

pub returns-then-n-ge-LIMIT : goal.returns-then-n-ge-LIMIT
returns-then-n-ge-LIMIT c =
    let a = c.args in
    let h = c.held-list.ensures in
    let len : length a.t.pages ≡ 64 = search rules in
    mark-over 64 a.t a.page _ c.count_below-p.result len h.len (rw h.list at c.count_below-p.ensures.is)
    (λ b q. elim c.else-p-n.branch [ else-p-n-via-then-p-n+else-pages-p w ↦ w.if-pages-p.false q | else-p-n-via-else-p-n w ↦ omega arith ])
    c.if-n-ge-LIMIT.true

pub returns : goal.returns
returns c =
    let a = c.args in
    let h = c.held-list.ensures in
    let len : length a.t.pages ≡ 64 = search rules in
    mark-new 64 a.t a.page _ c.count_below-p.result len h.len (rw h.list at c.count_below-p.ensures.is)
    (λ b q. elim c.else-p-n.branch [ else-p-n-via-then-p-n+else-pages-p w ↦ w.if-pages-p.false q | else-p-n-via-else-p-n w ↦ omega arith ]) _
    c.if-n-ge-LIMIT.false
    (rw c.shift_in.ensures (shifted-part a.t.pages c.count_below-p.result _ a.page c.count_below-p.ensures.bound (omega arith)))
