-- The ways out by a refusal: what the first tests refuse leaves everything as it was, and hands out what stands for nothing. Assumes nothing.
use Prim.Native.Nat.{ℕ}
use native.Mathlib.Omega.{arith}
use mathlib.Core.Path.{◌≡◌, ap, ◌∙◌}
use mathlib.Core.List.{List}
use Rattle.std.specs.Prelude.{Result}
use Rattle.std.specs.Result.{IsErr, IsErrAnd}
use Rattle.fields.specs.declared.refusal.Refusal.{Refusal}
use Rattle.fields.specs.Refusals.{number_of}
use Rattle.fields.proofs.AnswerLaws.{number-positive, handed-on}
use Rattle.world.specs.Calls.{Call}
use Rattle.lent.specs.declared.Head.{Head}
use Rattle.lent.specs.Lent.{Lent, lent, Reply, replied, Left, leaving, called_lent}
use Rattle.lent.proofs.Laws.{first-left}
use Rattle.still.specs.Still.{beside, value_in, replied_in, handed_out}
use Rattle.still.specs.Entries.{first_no}
use Rattle.still.proofs.Handed.{handed-none}

pub refusal-number : (r : Refusal) → number_of r ≡ 0 → ⊥
refusal-number r e = omega (arith, e, number-positive r)

module _ (P : ℕ) (s : Lent) (log db clog frames : List ℕ) where
  -- what an answer leaves, where no array and no buffer is changed
  abbrev pub answered : Reply → Left
  answered a = leaving a.number (lent a.head s.rows s.resident s.touched) log db clog frames

  module _ (r : Refusal) (e : number_of r ≡ first_no P s log db clog frames) where
    pub refused-first : (c : Call) → leaving (number_of r) s log db clog frames ≡ called_lent P c s log db clog frames
    refused-first c = first-left P c s log db clog frames (number_of r) e (refusal-number r)

    -- what `?` hands on
    pub refused-on : (c : Call) (x : Result Head Refusal) → IsErr x × IsErrAnd x (λ q. q ≡ r) → answered (replied s.head x) ≡ called_lent P c s log db clog frames
    refused-on c x h = ap (λ y. answered (replied s.head y)) (handed-on x r h) ∙ refused-first c

    pub handed-first : {A : Type 0} (c : Call) (a b : A) (x : Result (A × Head) Refusal) → IsErr x × IsErrAnd x (λ q. q ≡ r) →
        beside (value_in b x) (answered (replied_in s.head x)) ≡ handed_out a b (called_lent P c s log db clog frames)
    handed-first c a b x h =
        ap (λ y. beside (value_in b y) (answered (replied_in s.head y))) (handed-on x r h) ∙ handed-none a b _ _ (refused-first c) (refusal-number r)
