-- `rows::is_bad` meets its contract. The loop's invariant: what was found, or is found from the row before on. Assumes nothing.
use Prim.Native.Nat.{◌-◌, ◌+◌}
use mathlib.Core.Path.{◌≡◌, sym, ap, ◌∙◌}
use mathlib.Core.Bool.{Bool, ◌||◌}
use native.Mathlib.Omega.{arith}
use lib.ListN.{take, drop, get_or}
use lib.Dec.{leb}
use Rattle.rows.specs.Rows.{row_id}
use Rattle.rows.specs.Inside.{bad_rows}
use Rattle.rows.proofs.Laws.{no_row, bad-on, bad_last, bad-none, or-then, held_first}
use Rattle.fields.proofs.Tests.{or-false}
use Rattle.rows.proofs.is_bad.Goals as goal

pub returns-then-n-eq0 : goal.returns-then-n-eq0
returns-then-n-eq0 c =
    let a = c.args in
    rw (← held_first a.rows.now c.min-n.result a.count c.told-rows c.min-n.ensures) (sym (bad-none a.rows.now c.min-n.result c.if-n-eq0.true))

pub loop-i-init : goal.loop-i-init
loop-i-init c =
    let a = c.args in
    ap bad_rows (held_first a.rows.now c.min-n.result a.count c.told-rows c.min-n.ensures)

pub loop-i-preserved : goal.loop-i-preserved
loop-i-preserved c =
    let l = c.loop-i in
    let a = c.args in
    let n = c.min-n.result in
    let e : l.i + 1 - 1 ≡ l.i = omega arith in
    let f : l.i - 1 + 1 ≡ l.i = omega arith in
    let rest = bad_rows (drop l.i (take n a.rows.now)) in
    let step = rw f at (bad-on a.rows.now n (l.i - 1) (omega arith) (omega arith)) in
    let odd = ap (λ (b : Bool). l.bad || (b || leb (row_id (get_or a.rows.now l.i no_row)) (row_id (get_or a.rows.now (l.i - 1) no_row)))) c.is_odd-odd.ensures in
    rw e (ap (λ (b : Bool). b || rest) odd ∙ or-then l.bad _ rest ∙ ap (λ (b : Bool). l.bad || b) (sym step) ∙ l.invariant)

pub returns : goal.returns
returns c =
    let l = c.loop-i in
    let a = c.args in
    let n = c.min-n.result in
    let e : n - 1 ≡ l.i - 1 = omega (arith, l.auto.i-end (omega arith)) in
    let last = bad_last a.rows.now n (l.i - 1) (omega (arith, e)) (omega arith) ∙ or-false _ in
    rw (c.is_odd-odd-2.ensures, e) (ap (λ (b : Bool). l.bad || b) (sym last) ∙ l.invariant)
