-- `handing::hand_out_table` meets its contract: refused by the tests that every call makes first, or what the table's hand-out gives. Assumes nothing.
use mathlib.Core.Path.{◌≡◌, ap, ◌∙◌}
use Prim.Native.Nat.{ℕ}
use native.Mathlib.Omega.{arith}
use lib.ListN.{length}
use borrow.Author.Rules.{rules}
use Rattle.fields.specs.Refusals.{number_of}
use Rattle.fields.proofs.AnswerLaws.{number-positive, handed-on}
use Rattle.sorted.proofs.Laws.{length-of-mapped}
use Rattle.hands.specs.Handing.{handed_as, handed}
use Rattle.hands.proofs.HandLaws.{hand-before}
use Rattle.handing.proofs.TableLaws.{table-handed}
use Rattle.handing.proofs.hand_out_table.Goals as goal

pub returns-in_err-check_front : goal.returns-in_err-check_front
returns-in_err-check_front c =
    let a = c.args in
    let r = c.in_err-check_front.field-0.0 in
    let len : length a.s.table.entries ≡ 256 = search (rules, length-of-mapped) in
    ap (λ x. handed_as x a.out.now) (handed-on _ _ c.from_residual.ensures)
    ∙ hand-before 256 a.s.table a.out.now (number_of r) (λ z. omega (arith, number-positive r, z))
    ∙ ap (λ (k : ℕ). handed 256 a.s.table a.out.now k) c.in_err-check_front.ensures ∙ table-handed 4096 a.s a.log.now a.db.now a.clog.now a.frames.now len a.out.now

pub returns : goal.returns
returns c =
    let a = c.args in
    let len : length a.s.table.entries ≡ 256 = search (rules, length-of-mapped) in
    c.hand_out.ensures ∙ ap (λ (k : ℕ). handed 256 a.s.table a.out.now k) c.in_ok-check_front.ensures ∙ table-handed 4096 a.s a.log.now a.db.now a.clog.now a.frames.now len a.out.now
