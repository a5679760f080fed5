-- Each contract of the crate lets one answer through: two results that meet it for the same call are the same, and so are the arrays, the frame buffer and what was
-- handed out. The other buffers are lent to be read only. Assumes nothing.
use Prim.Native.Nat.{ℕ}
use native.Mathlib.Omega.{arith}
use mathlib.Core.Path.{◌≡◌, sym, ap, ◌∙◌}
use mathlib.Core.List.{List}
use Rattle.std.specs.Prelude.{Result, Ok, Err}
use Rattle.fields.specs.declared.refusal.Refusal.{Refusal}
use Rattle.fields.proofs.AnswerLaws.{number-positive, number-same}
use Rattle.lent.specs.declared.Head.{Head}
use Rattle.lent.specs.Lent.{Reply, replied, lent, Left, leaving}
use Rattle.still.specs.declared.Gone.{Gone}
use Rattle.still.specs.Still.{Beside, beside, value_in, replied_in, Taken, no_gone, taken_of}

replied-back : (h : Head) (a b : Result Head Refusal) → replied h a ≡ replied h b → a ≡ b
replied-back h (Ok x) (Ok y) e = ap (λ (q : Reply). Ok q.head) e
replied-back h (Ok x) (Err q) e = absurd (omega (arith, number-positive q, ap (λ (t : Reply). t.number) e))
replied-back h (Err r) (Ok y) e = absurd (omega (arith, number-positive r, ap (λ (t : Reply). t.number) e))
replied-back h (Err r) (Err q) e = ap (λ x. Err x) (number-same r q (ap (λ (t : Reply). t.number) e))

value-back : {A : Type 0} (v : A) (h : Head) (a b : Result (A × Head) Refusal) → value_in v a ≡ value_in v b → replied_in h a ≡ replied_in h b → a ≡ b
value-back v h (Ok x) (Ok y) f e = rw (f, ap (λ (q : Reply). q.head) e)
value-back v h (Ok x) (Err q) f e = absurd (omega (arith, number-positive q, ap (λ (t : Reply). t.number) e))
value-back v h (Err r) (Ok y) f e = absurd (omega (arith, number-positive r, ap (λ (t : Reply). t.number) e))
value-back v h (Err r) (Err q) f e = ap (λ x. Err x) (number-same r q (ap (λ (t : Reply). t.number) e))

-- the three arrays and the frame buffer
pub record Same (a a' : List (List ℕ)) (b b' c c' d d' : List ℕ) : Type 0 where
  pub rows : a ≡ a'
  pub resident : b ≡ b'
  pub touched : c ≡ c'
  pub frames : d ≡ d'

abbrev reply_of : Left → Reply
reply_of l = record { number = l.number; head = l.store.head }

module _ (h : Head) (rows rows' : List (List ℕ)) (resident resident' touched touched' log db clog frames frames' : List ℕ) where
  abbrev left : Reply → Left
  left a = leaving a.number (lent a.head rows resident touched) log db clog frames

  abbrev left' : Reply → Left
  left' a = leaving a.number (lent a.head rows' resident' touched') log db clog frames'

  abbrev AllSame : Type 0
  AllSame = Same rows rows' resident resident' touched touched' frames frames'

  left-same : (a b : Reply) → left a ≡ left' b → AllSame
  left-same a b e =
      record {
        rows = ap (λ (l : Left). l.store.rows) e;
        resident = ap (λ (l : Left). l.store.resident) e;
        touched = ap (λ (l : Left). l.store.touched) e;
        frames = ap (λ (l : Left). l.frames) e;
      }

  -- install, write a page
  pub reply-same : (a b : Result Head Refusal) (o : Left) → left (replied h a) ≡ o → left' (replied h b) ≡ o → (a ≡ b) × AllSame
  reply-same a b o e f =
      let g = e ∙ sym f in
      (replied-back h a b (ap reply_of g), left-same (replied h a) (replied h b) g)

  -- read a page
  pub read_same : (a b : Result Head Refusal) (bytes bytes' : List ℕ) (o : Beside (List ℕ)) →
      beside bytes (left (replied h a)) ≡ o → beside bytes' (left' (replied h b)) ≡ o → (a ≡ b) × (bytes ≡ bytes') × AllSame
  read_same a b bytes bytes' o e f =
      let g = e ∙ sym f in
      let l = ap (λ (x : Beside (List ℕ)). x.left) g in
      (replied-back h a b (ap reply_of l), ap (λ (x : Beside (List ℕ)). x.value) g, left-same (replied h a) (replied h b) l)

  -- the allocations
  pub given-same : {A : Type 0} (v : A) (a b : Result (A × Head) Refusal) (o : Beside A) →
      beside (value_in v a) (left (replied_in h a)) ≡ o → beside (value_in v b) (left' (replied_in h b)) ≡ o → (a ≡ b) × AllSame
  given-same {A} v a b o e f =
      let g = e ∙ sym f in
      let l = ap (λ (x : Beside A). x.left) g in
      (value-back v h a b (ap (λ (x : Beside A). x.value) g) (ap reply_of l), left-same (replied_in h a) (replied_in h b) l)

  pub gone_same : (a b : Result (Gone × Head) Refusal) (out out' : List ℕ) (o : Beside Taken) →
      beside (taken_of (value_in no_gone a) out) (left (replied_in h a)) ≡ o → beside (taken_of (value_in no_gone b) out') (left' (replied_in h b)) ≡ o →
      (a ≡ b) × (out ≡ out') × AllSame
  gone_same a b out out' o e f =
      let g = e ∙ sym f in
      let l = ap (λ (x : Beside Taken). x.left) g in (
        value-back no_gone h a b (ap (λ (x : Beside Taken). gone_of x.value) g) (ap reply_of l),
        ap (λ (x : Beside Taken). x.value.out) g,
        left-same (replied_in h a) (replied_in h b) l,
      )
    where
      gone_of : Taken → Gone
      gone_of t = record { held = t.held; id = t.id; count = t.count }

-- what is handed out, and what is left: by `leaving-same` of crate lent this is the answer
pub beside_same : {A : Type 0} (a b : A) (l m : Left) (o : Beside A) → beside a l ≡ o → beside b m ≡ o → (a ≡ b) × (l ≡ m)
beside_same {A} a b l m o e f =
    let g = e ∙ sym f in (ap (λ (x : Beside A). x.value) g, ap (λ (x : Beside A). x.left) g)
