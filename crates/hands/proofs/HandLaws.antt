-- Laws of a hand-out: its number, test by test; how many entries go; and the list with the first entries of one list laid over another, `up_to es xs i`: the
-- first i of es, then xs from i on.
-- Assumes nothing.
use mathlib.Core.Path.{◌≡◌, refl, ap}
use Prim.Native.Nat.{ℕ, zero, suc, ◌≤◌}
use native.Mathlib.Omega.{arith}
use mathlib.Core.Bool.{Bool, true, false, cond, ◌&&◌}
use mathlib.Core.List.{List, ◌++◌}
use Rattle.std.specs.Prelude.{get_or, Result, Ok, Err}
use lib.Dec.{ltb, leb}
use lib.ListN.{length, take, drop}
use lib.Seq.{length-take-le}
use borrow.Author.Tests.{ltb-false, leb-true}
use Rattle.fields.specs.declared.refusal.Refusal.{Refusal}
use Rattle.fields.specs.Answers.{Told, told}
use Rattle.fields.proofs.AnswerLaws.{number-positive, told_same}
use Rattle.table.specs.declared.Entry.{Entry}
use Rattle.table.specs.declared.Table.{Table}
use Rattle.table.specs.Entries.{list_of, ascending, well_formed}
use Rattle.hands.specs.Handing.{Handed, handed_as, numbered_as, handed_by, hand_no, handed}
use Rattle.hands.specs.Inside.{told_if, hand_told}

-- ---- lists

module _ {X : Type 0} where
  abbrev pub up_to : List X → List X → ℕ → List X
  up_to es xs i = take i es ++ drop i xs

-- ---- the number

module _ (N : ℕ) (t : Table) (room : ℕ) where
  -- where it is 0, the table's count is within its limit and the slice
  by_tests : (l a s : Bool) → leb t.count N ≡ l → ltb room t.count ≡ s → ◌≡◌ {A = ℕ} (cond (l && a) (cond s 13 0) 14) 0
      → (t.count ≤ N) × (t.count ≤ room)
  by_tests true true false p q e = (leb-true t.count N p, ltb-false room t.count q)
  by_tests true true true p q e = absurd (omega (arith, e))
  by_tests true false s p q e = absurd (omega (arith, e))
  by_tests false a s p q e = absurd (omega (arith, e))

  no-means : (before : ℕ) → hand_no N t room before ≡ 0 → (t.count ≤ N) × (t.count ≤ room)
  unfolding hand_no well_formed
  no-means zero e = by_tests (leb t.count N) (ascending (list_of t)) (ltb room t.count) refl refl e
  no-means (suc before) e = absurd (omega (arith, e))

-- ---- what is told: n entries where the number is 0

-- an answer of m entries, and a refusal
told-ok : (m n k : ℕ) → told (Ok m) ≡ told_if n k → (k ≡ 0) × (m ≡ n)
told-ok m n zero e = (refl, ap (λ (t : Told). get_or t.values 0 0) e)
told-ok m n (suc k) e = absurd (omega (arith, ap (λ (t : Told). t.number) e))

module _ (N : ℕ) (t : Table) (room : ℕ) where
  -- where entries go, they are all, and fit
  pub hand-le : (n before : ℕ) → told (Ok n) ≡ hand_told N t room before → (n ≤ N) × (n ≤ room)
  unfolding hand_told
  hand-le n before e =
      let h = told-ok n t.count _ e in
      let l = no-means N t room before h.0 in
      (omega arith, omega arith)

module _ (N : ℕ) (t : Table) (xs : List Entry) (before : ℕ) where
  pub hand-refused : (r : Refusal) → told (Err r) ≡ hand_told N t (length xs) before → handed_as (Err r) xs ≡ handed N t xs before
  unfolding hand_told handed handed_by
  hand-refused r e = go (hand_no N t (length xs) before) e
    where
      go : (k : ℕ) → told (Err r) ≡ told_if t.count k → handed_as (Err r) xs ≡ handed_by (list_of t) xs k
      go zero f = absurd (omega (arith, number-positive r, ap (λ (a : Told). a.number) f))
      go (suc k) f = ap (λ (a : Told). record { told = a; slice = xs }) f

  pub hand-done : length t.entries ≡ N → (n : ℕ) → told (Ok n) ≡ hand_told N t (length xs) before →
      handed_as (Ok n) (up_to t.entries xs n) ≡ handed N t xs before
  unfolding hand_told handed handed_by
  hand-done len n e =
      let h = told-ok n t.count (hand_no N t (length xs) before) e in
      let l : length (list_of t) ≡ t.count = length-take-le t.count t.entries (omega (arith, len, (no-means N t (length xs) before h.0).0)) in
      rw (h.0, h.1, l)

  -- a number of tests before is the answer's, whatever it is
  pub hand-before : (before ≡ 0 → ⊥) → numbered_as (Err before) xs ≡ handed N t xs before
  unfolding handed hand_no handed_by
  hand-before h = go before h
    where
      go : (n : ℕ) → (n ≡ 0 → ⊥) → numbered_as (Err n) xs ≡ handed N t xs n
      go zero f = absurd (f refl)
      go (suc n) f = refl

-- ---- two answers that one contract allows are equal, and so is every entry of the slice

pub handed-same : (a b : Result ℕ Refusal) (xs ys : List Entry) → handed_as a xs ≡ handed_as b ys → (a ≡ b) × (xs ≡ ys)
handed-same a b xs ys e = (told_same a b (ap (λ (h : Handed). h.told) e), ap (λ (h : Handed). h.slice) e)

pub numbered-same : (a b : Result ℕ ℕ) (xs ys : List Entry) → numbered_as a xs ≡ numbered_as b ys → (a ≡ b) × (xs ≡ ys)
numbered-same (Ok m) (Ok n) xs ys e = (ap (λ (k : ℕ). Ok k) (ap (λ (h : Handed). get_or h.told.values 0 0) e), ap (λ (h : Handed). h.slice) e)
numbered-same (Err m) (Err n) xs ys e = (ap (λ (k : ℕ). Err k) (ap (λ (h : Handed). h.told.number) e), ap (λ (h : Handed). h.slice) e)
numbered-same (Ok m) (Err n) xs ys e = absurd (omega (arith, ap (λ (h : Handed). length h.told.values) e))
numbered-same (Err m) (Ok n) xs ys e = absurd (omega (arith, ap (λ (h : Handed). length h.told.values) e))
