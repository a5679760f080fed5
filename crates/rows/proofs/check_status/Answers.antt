-- `rows::check_status` meets its contract: the three ways out of `with_status`, without its change. Assumes nothing.
use mathlib.Core.Path.{◌≡◌, refl, ap}
use native.Mathlib.Omega.{arith}
use lib.ListN.{length}
use Rattle.table.specs.declared.Status.TheVariants.{Active}
use Rattle.rows.specs.Rows.{row_kept}
use Rattle.rows.proofs.Laws.{with-hit, with-full, with-new}
use borrow.Author.Rules.{rules}
use Rattle.rows.proofs.check_status.Goals as goal
use Rattle.rows.proofs.check_status.Goals.{else-p-n-via-then-p-n+else-rows-p, else-p-n-via-else-p-n}

pub returns-then-rows-p : goal.returns-then-rows-p
returns-then-rows-p c =
    let a = c.args in
    let len : length a.rows.now ≡ 256 = search rules in
    ap row_kept (with-hit 256 a.rows.now a.count (record { id = a.id; status = Active }) _ c.place-p.result len c.held-list.ensures.len (rw c.held-list.ensures.list at c.place-p.ensures.is) (omega arith) c.if-rows-p.true)

pub returns-then-n-ge-LIMIT : goal.returns-then-n-ge-LIMIT
returns-then-n-ge-LIMIT c =
    let a = c.args in
    let len : length a.rows.now ≡ 256 = search rules in
    (ap row_kept (with-full 256 a.rows.now a.count (record { id = a.id; status = Active }) _ c.place-p.result len c.held-list.ensures.len (rw c.held-list.ensures.list at c.place-p.ensures.is) (λ h q. elim c.else-p-n.branch [ else-p-n-via-then-p-n+else-rows-p w ↦ w.if-rows-p.false q | else-p-n-via-else-p-n w ↦ omega arith ]) (omega arith)))

pub returns : goal.returns
returns c =
    let a = c.args in
    let len : length a.rows.now ≡ 256 = search rules in
    ap row_kept (with-new 256 a.rows.now a.count (record { id = a.id; status = Active }) _ c.place-p.result len c.held-list.ensures.len (rw c.held-list.ensures.list at c.place-p.ensures.is) (λ h q. elim c.else-p-n.branch [ else-p-n-via-then-p-n+else-rows-p w ↦ w.if-rows-p.false q | else-p-n-via-else-p-n w ↦ omega arith ]) _ (omega arith) refl)
