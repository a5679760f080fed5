-- The contracts let one answer through: two answers of a call carried out on a store that stands where it is lent that meet the same equation are the same, and so is
-- every array and every byte that was lent to be changed. What is cut, counted or told is answered for in crate ready; a call made ready is stated as the answer
-- itself. Assumes nothing.
use Prim.Native.Nat.{ℕ}
use native.Mathlib.Omega.{arith}
use mathlib.Core.Path.{◌≡◌, ap}
use mathlib.Core.List.{List}
use Rattle.std.specs.Prelude.{Result, Ok, Err}
use Rattle.fields.specs.declared.refusal.Refusal.{Refusal}
use Rattle.fields.specs.Refusals.{number_of}
use Rattle.fields.proofs.AnswerLaws.{number-positive, number-same}
use Rattle.lent.specs.declared.Head.{Head}
use Rattle.lent.specs.Lent.{Reply, replied, lent, Left, leaving}
use Rattle.lent.proofs.Answers.{SameArrays, leaving-same}
use Rattle.ready.specs.declared.Numbered.{Numbered}

-- g and h are what a refusal leaves
replied-same : (g h : Head) (a b : Result Head Refusal) → replied g a ≡ replied h b → a ≡ b
replied-same g h (Ok x) (Ok y) e = ap (λ (r : Reply). Ok r.head) e
replied-same g h (Ok x) (Err s) e = let n : 0 ≡ number_of s = ap (λ (r : Reply). r.number) e in absurd (omega (arith, number-positive s, n))
replied-same g h (Err r) (Ok y) e = let n : number_of r ≡ 0 = ap (λ (q : Reply). q.number) e in absurd (omega (arith, number-positive r, n))
replied-same g h (Err r) (Err s) e = ap (λ q. Err q) (number-same r s (ap (λ (q : Reply). q.number) e))

pub left-same : (rows rows' : List (List ℕ)) (resident resident' touched touched' log log' db db' clog clog' frames frames' : List ℕ) (g h : Head) (a b : Result Head Refusal)
    (o : Left) →
    leaving (replied g a).number (lent (replied g a).head rows resident touched) log db clog frames ≡ o →
    leaving (replied h b).number (lent (replied h b).head rows' resident' touched') log' db' clog' frames' ≡ o →
    (a ≡ b) × SameArrays rows rows' resident resident' touched touched' × (log ≡ log') × (db ≡ db') × (clog ≡ clog') × (frames ≡ frames')
left-same rows rows' resident resident' touched touched' log log' db db' clog clog' frames frames' g h a b o e f =
    let p = leaving-same rows rows' resident resident' touched touched' log log' db db' clog clog' frames frames' (replied g a) (replied h b) o e f in
    (replied-same g h a b p.0, p.1, p.2, p.3, p.4, p.5)

-- the same of a call of any number, as it was made ready
pub carried-lent-same : (rows rows' : List (List ℕ)) (resident resident' touched touched' log log' db db' clog clog' frames frames' : List ℕ) (a b : Numbered Head) (o : Left) →
    leaving a.number (lent a.value rows resident touched) log db clog frames ≡ o →
    leaving b.number (lent b.value rows' resident' touched') log' db' clog' frames' ≡ o →
    (a ≡ b) × SameArrays rows rows' resident resident' touched touched' × (log ≡ log') × (db ≡ db') × (clog ≡ clog') × (frames ≡ frames')
carried-lent-same rows rows' resident resident' touched touched' log log' db db' clog clog' frames frames' a b o e f =
    let p =
    leaving-same rows rows' resident resident' touched touched' log log' db db' clog clog' frames frames' (record { number = a.number; head = a.value })
    (record { number = b.number; head = b.value }) o e f in
    (ap (λ (r : Reply). record { number = r.number; value = r.head }) p.0, p.1, p.2, p.3, p.4, p.5)
