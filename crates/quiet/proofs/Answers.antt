-- Each contract of the crate lets one answer through: two results whose outcome is the same call's are the same, and so is every byte of the frame buffer.
-- The other buffers are lent to be read only. Assumes nothing.
use Prim.Native.Nat.{ℕ}
use native.Mathlib.Omega.{arith}
use mathlib.Core.Path.{◌≡◌, refl, sym, ap, ◌∙◌}
use mathlib.Core.List.{List, [], ◌∷◌}
use Rattle.std.specs.Prelude.{Option, Some, None, Result, Ok, Err}
use Rattle.fields.specs.declared.refusal.Refusal.{Refusal}
use Rattle.fields.proofs.AnswerLaws.{number-positive, number-same}
use Rattle.table.specs.declared.Entry.{Entry}
use Rattle.form.specs.declared.Store.{Store}
use Rattle.form.specs.Store.{Changed, changed, Outcome, outcome, value_in, changed_in, Given, given}
use Rattle.quiet.specs.Entries.{EntryCount, count_told, EntryTold, entry_told}

changed-back : (s : Store) (a b : Result Store Refusal) → changed s a ≡ changed s b → a ≡ b
changed-back s (Ok u) (Ok v) e = ap (λ (x : Changed). Ok x.store) e
changed-back s (Ok u) (Err q) e = absurd (omega (arith, number-positive q, ap (λ (x : Changed). x.number) e))
changed-back s (Err r) (Ok v) e = absurd (omega (arith, number-positive r, ap (λ (x : Changed). x.number) e))
changed-back s (Err r) (Err q) e = ap (λ x. Err x) (number-same r q (ap (λ (x : Changed). x.number) e))

given-back : {A : Type 0} (v : A) (s : Store) (a b : Result (A × Store) Refusal) → value_in v a ≡ value_in v b → changed_in s a ≡ changed_in s b → a ≡ b
given-back v s (Ok x) (Ok y) f e = rw (f, ap (λ (x : Changed). x.store) e)
given-back v s (Ok x) (Err q) f e = absurd (omega (arith, number-positive q, ap (λ (x : Changed). x.number) e))
given-back v s (Err r) (Ok y) f e = absurd (omega (arith, number-positive r, ap (λ (x : Changed). x.number) e))
given-back v s (Err r) (Err q) f e = ap (λ x. Err x) (number-same r q (ap (λ (x : Changed). x.number) e))

abbrev changed_of : Outcome → Changed
changed_of o = record { number = o.number; store = o.store }

module _ (s : Store) (log db clog frames frames' : List ℕ) where
  -- install, write a page
  pub changed-same : (a b : Result Store Refusal) (o : Outcome) → outcome (changed s a) log db clog frames ≡ o → outcome (changed s b) log db clog frames' ≡ o →
      (a ≡ b) × (frames ≡ frames')
  changed-same a b o e f = (changed-back s a b (ap changed_of (e ∙ sym f)), ap (λ (x : Outcome). x.frames) (e ∙ sym f))

  -- the calls that hand something out
  pub given-same : {A : Type 0} (v : A) (a b : Result (A × Store) Refusal) (o : Given A) →
      given (value_in v a) (changed_in s a) log db clog frames ≡ o → given (value_in v b) (changed_in s b) log db clog frames' ≡ o →
      (a ≡ b) × (frames ≡ frames')
  given-same {A} v a b o e f =
      let g = e ∙ sym f in
      (given-back v s a b (ap (λ (x : Given A). x.value) g) (ap (λ (x : Given A). changed_of x.outcome) g), ap (λ (x : Given A). x.outcome.frames) g)

-- the entries that are told
pub count-same : (a b : Result ℕ Refusal) → count_told a ≡ count_told b → a ≡ b
count-same (Ok m) (Ok n) e = ap (λ (x : EntryCount). Ok x.entries) e
count-same (Ok m) (Err q) e = absurd (omega (arith, number-positive q, ap (λ (x : EntryCount). x.number) e))
count-same (Err r) (Ok n) e = absurd (omega (arith, number-positive r, ap (λ (x : EntryCount). x.number) e))
count-same (Err r) (Err q) e = ap (λ x. Err x) (number-same r q (ap (λ (x : EntryCount). x.number) e))

entry_of : List Entry → Option Entry
entry_of [] = None
entry_of (e ∷ l) = Some e

told-same : (a b : Result (Option Entry) Refusal) → entry_told a ≡ entry_told b → a ≡ b
unfolding entry_of
told-same (Ok (Some x)) (Ok (Some y)) e = ap (λ (t : EntryTold). Ok (entry_of t.entries)) e
told-same (Ok (Some x)) (Ok None) e = ap (λ (t : EntryTold). Ok (entry_of t.entries)) e
told-same (Ok None) (Ok (Some y)) e = ap (λ (t : EntryTold). Ok (entry_of t.entries)) e
told-same (Ok None) (Ok None) e = refl
told-same (Ok x) (Err q) e = absurd (omega (arith, number-positive q, ap (λ (t : EntryTold). t.number) e))
told-same (Err r) (Ok y) e = absurd (omega (arith, number-positive r, ap (λ (t : EntryTold). t.number) e))
told-same (Err r) (Err q) e = ap (λ x. Err x) (number-same r q (ap (λ (t : EntryTold). t.number) e))

pub entry-same : (a b : Result (Option Entry) Refusal) (o : EntryTold) → entry_told a ≡ o → entry_told b ≡ o → a ≡ b
entry-same a b o e f = told-same a b (e ∙ sym f)
