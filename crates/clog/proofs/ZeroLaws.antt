-- Packed bytes that begin with zeros: what compact, load and the slots make of n bytes of zeros and the bytes bs after them. Slot 4 n of the whole is the first of
-- bs. The second form of a clog leaves such zeros out (crate shrunk). Assumes nothing.
use mathlib.Core.Path.{◌≡◌, refl, ap, ◌∙◌}
use mathlib.Core.List.{List, ◌∷◌, ◌++◌, map}
use Prim.Native.Nat.{ℕ, zero, suc, ◌+◌, ◌-◌, ◌*◌}
use native.Mathlib.Nat.{zero-div, zero-mul}
use native.Mathlib.Omega.{arith}
use lib.ListN.{replicate}
use Rattle.clog.specs.Slots.{bits_of, high_bits, cleared, codes, entry_of, entries_from, settled_code, settled_byte}

high_zero : (w : ℕ) → high_bits w 0 ≡ 0
unfolding high_bits
high_zero w = rw (zero-div, zero-mul)

pub cleared-zeros : (n w : ℕ) (bs : List ℕ) → cleared w (replicate n 0 ++ bs) ≡ replicate n 0 ++ cleared (w - 4 * n) bs
unfolding cleared
cleared-zeros zero w bs = let e : w - 4 * 0 ≡ w = omega arith in rw e
cleared-zeros (suc n) w bs =
    let e : w - 4 * suc n ≡ w - 4 - 4 * n = omega arith in
    rw (e, high_zero w, cleared-zeros n (w - 4) bs)

pub settled-zeros : (n : ℕ) (bs : List ℕ) → map settled_byte (replicate n 0 ++ bs) ≡ replicate n 0 ++ map settled_byte bs
unfolding settled_byte settled_code bits_of
settled-zeros zero bs = refl
settled-zeros (suc n) bs = ap (λ (l : List ℕ). 0 ∷ l) (settled-zeros n bs)

-- a byte of zeros has no entry
entries-zero : (t : ℕ) (bs : List ℕ) → entries_from t (codes (0 ∷ bs)) ≡ entries_from (t + 4) (codes bs)
unfolding codes entries_from entry_of bits_of
entries-zero t bs = let e : t + 1 + 1 + 1 + 1 ≡ t + 4 = omega arith in rw e

pub entries-zeros : (n t : ℕ) (bs : List ℕ) → entries_from t (codes (replicate n 0 ++ bs)) ≡ entries_from (t + 4 * n) (codes bs)
entries-zeros zero t bs = let e : t + 4 * 0 ≡ t = omega arith in rw e
entries-zeros (suc n) t bs =
    let e : t + 4 * suc n ≡ t + 4 + 4 * n = omega arith in
    entries-zero t (replicate n 0 ++ bs) ∙ entries-zeros n (t + 4) bs ∙ rw e
