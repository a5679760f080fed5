-- Zero bytes, eight at once where the number that they stand for is 0, and one at a time. Assumes nothing.
use Prim.Native.Nat.{ℕ, zero, suc, ◌+◌, ◌≤◌, ◌<◌}
use native.Mathlib.Omega.{arith}
use mathlib.Core.Path.{◌≡◌, refl, sym, ap, ◌∙◌}
use mathlib.Core.List.{List, [], ◌∷◌, ◌++◌}
use mathlib.Core.Bool.{Bool, true, false, cond, ◌&&◌}
use lib.ListN.{length, take, drop, get_or, replicate, take-append-drop, length-drop}
use lib.Seq.{drop-cons, drop-drop, length-take-le}
use lib.Dec.{leb, eqb}
use borrow.Author.Tests.{eq-eqb, ne_eqb, leb-true, eqb-true}
use Rattle.fields.specs.Bytes.{le_of, field}
use Rattle.sweeps.specs.Inside.{free, zeros, busy_from}

both_true : (a b : Bool) → (a && b) ≡ true → (a ≡ true) × (b ≡ true)
both_true true true h = (refl, refl)
both_true true false h = let z : ◌≡◌ {A = ℕ} 0 1 = cc in absurd (omega arith)
both_true false b h = let z : ◌≡◌ {A = ℕ} 0 1 = cc in absurd (omega arith)

-- bytes that stand for 0 are zeros
zeros-through : (l r : List ℕ) → le_of l ≡ 0 → zeros (l ++ r) ≡ length l + zeros r
unfolding le_of zeros
zeros-through [] r h = let e : 0 + zeros r ≡ zeros r = omega arith in sym e
zeros-through (b ∷ l) r h =
    let k : le_of l ≡ 0 = omega arith in
    rw (eq-eqb b 0 (omega arith)) (ap suc (zeros-through l r k) ∙ omega arith)

pub free-fits : (s : List ℕ) (i : ℕ) → free s i ≡ true → i + 8 ≤ length s
unfolding free
free-fits s i h = leb-true (i + 8) (length s) (both_true (leb (i + 8) (length s)) (eqb (field 8 i s) 0) h).0

free-zeros : (s : List ℕ) (i : ℕ) → free s i ≡ true → zeros (drop i s) ≡ 8 + zeros (drop (i + 8) s)
unfolding free
free-zeros s i h =
    let k : field 8 i s ≡ 0 = eqb-true (field 8 i s) 0 (both_true (leb (i + 8) (length s)) (eqb (field 8 i s) 0) h).1 in
    let e : take 8 (drop i s) ++ drop 8 (drop i s) ≡ drop i s = take-append-drop 8 (drop i s) in
    let n : length (take 8 (drop i s)) ≡ 8 = length-take-le 8 (drop i s) (rw length-drop (omega (arith, free-fits s i h))) in
    ap zeros (sym e) ∙ zeros-through (take 8 (drop i s)) (drop 8 (drop i s)) k ∙ rw (n, drop-drop 8 i s)

pub busy-free : (s : List ℕ) (i : ℕ) → free s i ≡ true → busy_from s (i + 8) ≡ busy_from s i
unfolding busy_from
busy-free s i h = omega (arith, free-zeros s i h)

-- ---- one at a time

no-zeros : (l : List ℕ) → length l ≡ 0 → zeros l ≡ 0
unfolding zeros
no-zeros [] e = refl
no-zeros (b ∷ l) e = absurd (omega arith)

pub zeros-end : (s : List ℕ) (i : ℕ) → length s ≤ i → zeros (drop i s) ≡ 0
zeros-end s i h = no-zeros (drop i s) (rw length-drop (omega arith))

pub zeros-stop : (s : List ℕ) (i : ℕ) → i < length s → (get_or s i 0 ≡ 0 → ⊥) → zeros (drop i s) ≡ 0
unfolding zeros
zeros-stop s i h n = rw (drop-cons s i 0 h, ne_eqb (get_or s i 0) 0 n)

pub zeros-on : (s : List ℕ) (i : ℕ) → i < length s → get_or s i 0 ≡ 0 → zeros (drop i s) ≡ 1 + zeros (drop (i + 1) s)
unfolding zeros
zeros-on s i h e =
    let k : i + 1 ≡ suc i = omega arith in
    rw (k, drop-cons s i 0 h, eq-eqb (get_or s i 0) 0 e) (omega arith)

pub busy-stop : (s : List ℕ) (i : ℕ) → i < length s → (get_or s i 0 ≡ 0 → ⊥) → i ≡ busy_from s i
unfolding busy_from
busy-stop s i h n = omega (arith, zeros-stop s i h n)

pub busy-on : (s : List ℕ) (i : ℕ) → i < length s → get_or s i 0 ≡ 0 → busy_from s (i + 1) ≡ busy_from s i
unfolding busy_from
busy-on s i h e = omega (arith, zeros-on s i h e)

pub busy-end : (s : List ℕ) (i : ℕ) → length s ≤ i → i ≡ busy_from s i
unfolding busy_from
busy-end s i h = omega (arith, zeros-end s i h)

-- ---- where it ends

zeros-most : (l : List ℕ) → zeros l ≤ length l
unfolding zeros
zeros-most [] = omega arith
zeros-most (b ∷ l) = go (eqb b 0) (zeros-most l)
  where
    go : (c : Bool) → zeros l ≤ length l → cond c (suc (zeros l)) 0 ≤ suc (length l)
    go true h = omega arith
    go false h = omega arith

pub busy-within : (s : List ℕ) (at : ℕ) → at ≤ length s → (at ≤ busy_from s at) × (busy_from s at ≤ length s)
unfolding busy_from
busy-within s at h = (omega arith, omega (arith, zeros-most (drop at s), length-drop at s))

-- what is passed over is zeros
pub zeros-split : (l : List ℕ) → replicate (zeros l) 0 ++ drop (zeros l) l ≡ l
unfolding zeros
zeros-split [] = refl
zeros-split (zero ∷ l) = ap (λ (m : List ℕ). 0 ∷ m) (zeros-split l)
zeros-split (suc b ∷ l) = rw (ne_eqb (suc b) 0 (λ e. omega arith))
