-- The ways out by a refusal: the number of a call is what its first tests gave, or else its own; a refusal with that number leaves what the call leaves, and hands
-- out what stands for nothing. Assumes nothing.
use Prim.Native.Nat.{ℕ, zero, suc, ◌<◌}
use native.Mathlib.Omega.{arith}
use mathlib.Core.Path.{◌≡◌, refl, ap, ◌∙◌}
use mathlib.Core.List.{List}
use Rattle.std.specs.Prelude.{Result, Err}
use Rattle.std.specs.Result.{IsErr, IsErrAnd}
use Rattle.fields.specs.declared.refusal.Refusal.{Refusal}
use Rattle.fields.specs.Refusals.{number_of}
use Rattle.fields.proofs.AnswerLaws.{number-positive, handed-on}
use Rattle.world.specs.Calls.{Call}
use Rattle.world.specs.Refusals.{call_no, front_no, refuses}
use Rattle.world.specs.Run.{decided}
use Rattle.form.specs.declared.Store.{Store}
use Rattle.form.specs.Store.{world_of, changed, outcome, called, called_on, value_in, changed_in, given, handed}
use Rattle.form.proofs.Called.{refused, handed-refused}

-- what stands for nothing, where a refusal gives the number
pub decided-refused : {A : Type 0} (a b : A) (r : Refusal) → decided (number_of r) a b ≡ b
decided-refused {A} a b r = go (number_of r) (number-positive r)
  where
    go : (n : ℕ) → 0 < n → decided n a b ≡ b
    go zero h = absurd (omega arith)
    go (suc n) h = refl

module _ (P : ℕ) (c : Call) (s : Store) (log db clog frames : List ℕ) where
  pub by-front : (r : Refusal) → number_of r ≡ front_no P (world_of s log db clog frames) → refuses P c (world_of s log db clog frames) ≡ number_of r
  unfolding refuses
  by-front r e = go (number_of r) e (number-positive r)
    where
      go : (n : ℕ) → n ≡ front_no P (world_of s log db clog frames) → 0 < n → refuses P c (world_of s log db clog frames) ≡ n
      go zero f h = absurd (omega arith)
      go (suc n) f h = rw (← f)

  pub by-call : (n : ℕ) → 0 ≡ front_no P (world_of s log db clog frames) → call_no P c (world_of s log db clog frames) ≡ n →
      refuses P c (world_of s log db clog frames) ≡ n
  unfolding refuses
  by-call n e f = rw (← e) f

  pub refused-with : (b : Store) (r : Refusal) → refuses P c (world_of s log db clog frames) ≡ number_of r →
      outcome (changed s (Err r)) log db clog frames ≡ called_on P c b s log db clog frames
  refused-with b r e = go (number_of r) e (number-positive r)
    where
      go : (n : ℕ) → refuses P c (world_of s log db clog frames) ≡ n → 0 < n →
          outcome (record { number = n; store = s }) log db clog frames ≡ called_on P c b s log db clog frames
      go zero f h = absurd (omega arith)
      go (suc n) f h = refused P c b s log db clog frames n f

  pub handed-with : {A : Type 0} (a v : A) (r : Refusal) → refuses P c (world_of s log db clog frames) ≡ number_of r →
      given v (changed s (Err r)) log db clog frames ≡ handed a v (called P c s log db clog frames)
  handed-with a v r e =
      handed-refused a v s log db clog frames (called P c s log db clog frames) (number_of r) (λ z. omega (arith, z, number-positive r))
      (refused-with s r e)

  -- what `?` hands on
  pub refused-on : (b : Store) (x : Result Store Refusal) (r : Refusal) → IsErr x × IsErrAnd x (λ e. e ≡ r) →
      refuses P c (world_of s log db clog frames) ≡ number_of r →
      outcome (changed s x) log db clog frames ≡ called_on P c b s log db clog frames
  refused-on b x r h e = ap (λ y. outcome (changed s y) log db clog frames) (handed-on x r h) ∙ refused-with b r e

  pub handed-out : {A : Type 0} (a v : A) (x : Result (A × Store) Refusal) (r : Refusal) → IsErr x × IsErrAnd x (λ e. e ≡ r) →
      refuses P c (world_of s log db clog frames) ≡ number_of r →
      given (value_in v x) (changed_in s x) log db clog frames ≡ handed a v (called P c s log db clog frames)
  handed-out a v x r h e = ap (λ y. given (value_in v y) (changed_in s y) log db clog frames) (handed-on x r h) ∙ handed-with a v r e
