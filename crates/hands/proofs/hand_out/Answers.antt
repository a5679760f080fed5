-- `hands::hand_out` meets its contract: refused as `to_hand` told, or the first entries go in front, as many as go. Assumes nothing.
use mathlib.Core.Path.{◌≡◌, refl, sym, ap, ◌∙◌}
use borrow.Author.Rules.{rules}
use native.Mathlib.Omega.{arith}
use lib.ListN.{length, take}
use lib.Seq.{length-take-le}
use Rattle.fields.proofs.AnswerLaws.{handed-on}
use Rattle.fields.proofs.Stored.{copied-in}
use Rattle.sorted.proofs.Laws.{length-of-mapped}
use Rattle.hands.specs.Handing.{handed_as}
use Rattle.hands.proofs.HandLaws.{up_to, hand-refused, hand-le, hand-done}
use Rattle.hands.proofs.hand_out.Goals as goal

pub returns-in_err-n : goal.returns-in_err-n
returns-in_err-n c =
    let a = c.args in
    ap (λ r. handed_as r a.out.now) (handed-on _ _ c.from_residual.ensures) ∙ hand-refused 256 a.t a.out.now _ c.in_err-n.field-0.0 c.in_err-n.ensures

pub shared_ref_as_front-copy : goal.shared_ref_as_front-copy
shared_ref_as_front-copy c = let a = c.args in (hand-le 256 a.t (length a.out.now) c.in_ok-n.n 0 c.in_ok-n.ensures).0

pub returns : goal.returns
returns c =
    let a = c.args in
    let n = c.in_ok-n.n in
    let len : length a.t.entries ≡ 256 = search (rules, length-of-mapped) in
    let le = hand-le 256 a.t (length a.out.now) n 0 c.in_ok-n.ensures in
    let k : length (take n a.t.entries) ≡ n = length-take-le n a.t.entries (omega (arith, len, le.0)) in
    let laid : c.copy.new.dst ≡ up_to a.t.entries a.out.now n = c.copy.ensures ∙ rw k at (sym (copied-in a.out.now (take n a.t.entries) _ (omega (arith, k, le.1)) refl)) in
    rw laid (hand-done 256 a.t a.out.now 0 len n c.in_ok-n.ensures)
