-- Bytes with each slot made anew, whatever by: writing and reading are the same law at two functions. Assumes nothing.
use mathlib.Core.Path.{◌≡◌, refl, sym, ap, ◌∙◌}
use mathlib.Core.List.{List, [], ◌∷◌, ◌++◌}
use Prim.Native.Nat.{ℕ, zero, suc, ◌+◌, ◌*◌, ◌/◌, ◌%◌, ◌≤◌, ◌<◌}
use native.Mathlib.Nat.{add-zero}
use native.Mathlib.Numerals.{add-one}
use native.Mathlib.Omega.{arith}
use lib.ListN.{length, drop, get_or, set, replicate, drop_of_length-le, get_or-eq_default}
use lib.Seq.{sets, drop-cons}
use Rattle.clog.specs.Slots.{bits_of, slot_of}
use Rattle.clog.proofs.FourSlots.{by-slot, bits-zero, digit}
use Rattle.xacts.specs.Pages.{byte_of, byte_made, remade}

pub length-remade : (f : ℕ → ℕ → ℕ) (bs : List ℕ) (t : ℕ) → length (remade f t bs) ≡ length bs
unfolding remade
length-remade f [] t = refl
length-remade f (b ∷ bs) t = ap suc (length-remade f bs (t + 4))

-- ---- each slot by itself

module _ (f : ℕ → ℕ → ℕ) (small : (t c : ℕ) → f t c < 4) where
  -- the law of a byte of four slots
  four-made : (t b m : ℕ) → m < 4 → bits_of m (byte_made f t b) ≡ f (t + m) (bits_of m b)
  four-made t b m h =
      digit _ _ _ _ (small t (bits_of 0 b)) (small (t + 1) (bits_of 1 b)) (small (t + 2) (bits_of 2 b)) (small (t + 3) (bits_of 3 b)) m h
      ∙ by-slot (λ m. get_or (f t (bits_of 0 b) ∷ f (t + 1) (bits_of 1 b) ∷ f (t + 2) (bits_of 2 b) ∷ f (t + 3) (bits_of 3 b) ∷ []) m 0 ≡ f (t + m) (bits_of m b))
      (ap (λ (k : ℕ). f k (bits_of 0 b)) (sym (add-zero t))) refl refl refl m h

  remade-at : (bs : List ℕ) (t j m : ℕ) → m < 4 → j < length bs → bits_of m (get_or (remade f t bs) j 0) ≡ f (t + (4 * j + m)) (bits_of m (get_or bs j 0))
  unfolding remade
  remade-at [] t j m h l = absurd (omega arith)
  remade-at (b ∷ bs) t zero m h l =
      let e : t + m ≡ t + (4 * 0 + m) = omega arith in
      four-made t b m h ∙ ap (λ (k : ℕ). f k (bits_of m b)) e
  remade-at (b ∷ bs) t (suc j) m h l =
      let e : t + 4 + (4 * j + m) ≡ t + (4 * suc j + m) = omega arith in
      remade-at bs (t + 4) j m h (omega arith) ∙ ap (λ (k : ℕ). f k (bits_of m (get_or bs j 0))) e

  pub slot-remade : (bs : List ℕ) (k : ℕ) → k < 4 * length bs → slot_of 0 (remade f 0 bs) k ≡ f k (slot_of 0 bs k)
  unfolding slot_of
  slot-remade bs k l =
      let e : 0 + (4 * (k / 4) + k % 4) ≡ k = omega arith in
      let z : 0 + k / 4 ≡ k / 4 = omega arith in
      rw z (remade-at bs 0 (k / 4) (k % 4) (omega arith) (omega arith) ∙ ap (λ (j : ℕ). f j (bits_of (k % 4) (get_or bs (k / 4) 0))) e)

-- the code asks for the slots by division and remainder, and not by their definition
pub four-read : (f : ℕ → ℕ → ℕ) (t b c0 c1 c2 c3 : ℕ) → c0 ≡ f t (b % 4) → c1 ≡ f (t + 1) (b / 4 % 4) → c2 ≡ f (t + 2) (b / 16 % 4) → c3 ≡ f (t + 3) (b / 64 % 4)
    → byte_of c0 c1 c2 c3 ≡ byte_made f t b
unfolding bits_of
four-read f t b c0 c1 c2 c3 p q r s = let e : b % 4 ≡ b / 1 % 4 = omega arith in rw (p, q, r, s, e)

-- past the last byte a slot is 0
pub slot-past : (bs : List ℕ) (k : ℕ) → 4 * length bs ≤ k → slot_of 0 bs k ≡ 0
unfolding slot_of
slot-past bs k l = rw (get_or-eq_default bs 0 {n = 0 + k / 4} (omega arith)) (bits-zero (k % 4) (omega arith))

-- zeros after the last byte change no slot
get_or-zeros : (n i : ℕ) → get_or {A = ℕ} (replicate n 0) i 0 ≡ 0
get_or-zeros zero i = refl
get_or-zeros (suc n) zero = refl
get_or-zeros (suc n) (suc i) = get_or-zeros n i

get_or-filled : (bs : List ℕ) (n i : ℕ) → get_or (bs ++ replicate n 0) i 0 ≡ get_or bs i 0
get_or-filled [] n i = get_or-zeros n i
get_or-filled (b ∷ bs) n zero = refl
get_or-filled (b ∷ bs) n (suc i) = get_or-filled bs n i

pub slot-filled : (bs : List ℕ) (n k : ℕ) → slot_of 0 (bs ++ replicate n 0) k ≡ slot_of 0 bs k
unfolding slot_of
slot-filled bs n k = rw get_or-filled

-- ---- the loops that write: a turn, and the end

module _ (f : ℕ → ℕ → ℕ) (src out : List ℕ) (i : ℕ) where
  pub remade-turn : (v : ℕ) → i < length src → v ≡ byte_made f (4 * i) (get_or src i 0)
      → sets (set out i v) (i + 1) (remade f (4 * (i + 1)) (drop (i + 1) src)) ≡ sets out i (remade f (4 * i) (drop i src))
  unfolding remade
  remade-turn v h e =
      let n : 4 * (i + 1) ≡ 4 * i + 4 = omega arith in
      rw (n, drop-cons src i 0 h, e, add-one i)

  pub remade-end : length src ≤ i → sets out i (remade f (4 * i) (drop i src)) ≡ out
  unfolding remade
  remade-end h = rw (drop_of_length-le src h)
