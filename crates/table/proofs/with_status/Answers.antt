-- `table::with_status` meets its contract: each of its three ways out is a law of proofs/Laws.antt. Assumes nothing.
use mathlib.Core.Path.{◌≡◌, ap, ◌∙◌}
use native.Mathlib.Omega.{arith}
use borrow.Author.Rules.{rules}
use lib.ListN.{length}
use Rattle.fields.proofs.Lists.{shifted-part}
use Rattle.sorted.proofs.Laws.{length-of-mapped}
use Rattle.table.specs.Inside.{place_of}
use Rattle.table.proofs.Laws.{with-hit, with-full, with-new}
use Rattle.table.proofs.with_status.Goals as goal
use Rattle.table.proofs.with_status.Goals.{else-p-n-via-then-p-n+else-entries-p, else-p-n-via-else-p-n}

pub returns-then-entries-p : goal.returns-then-entries-p
returns-then-entries-p c =
    let t = c.args.t in
    let len : length t.entries ≡ 256 = search (rules, length-of-mapped) in
    with-hit 256 t _ (length c.held-list.result.now) c.place-p.result len c.held-list.ensures.len (c.place-p.ensures.is ∙ ap (place_of c.args.id.0) c.held-list.ensures.list) (omega arith) c.if-entries-p.true

pub returns-then-n-ge-LIMIT : goal.returns-then-n-ge-LIMIT
returns-then-n-ge-LIMIT c =
    let t = c.args.t in
    let len : length t.entries ≡ 256 = search (rules, length-of-mapped) in
    with-full 256 t _ (length c.held-list.result.now) c.place-p.result len c.held-list.ensures.len (c.place-p.ensures.is ∙ ap (place_of c.args.id.0) c.held-list.ensures.list)
    (λ h q. elim c.else-p-n.branch [ else-p-n-via-then-p-n+else-entries-p w ↦ w.if-entries-p.false q | else-p-n-via-else-p-n w ↦ omega arith ]) (omega arith)

pub returns : goal.returns
returns c =
    let t = c.args.t in
    let n = length c.held-list.result.now in
    let len : length t.entries ≡ 256 = search (rules, length-of-mapped) in
    with-new 256 t _ n c.place-p.result len c.held-list.ensures.len (c.place-p.ensures.is ∙ ap (place_of c.args.id.0) c.held-list.ensures.list)
    (λ h q. elim c.else-p-n.branch [ else-p-n-via-then-p-n+else-entries-p w ↦ w.if-entries-p.false q | else-p-n-via-else-p-n w ↦ omega arith ]) _ (omega arith)
    (rw c.shift_in.ensures (shifted-part t.entries c.place-p.result n _ (omega arith) (omega arith)))
