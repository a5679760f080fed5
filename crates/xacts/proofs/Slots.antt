-- Whether one of the slots is c, and what becomes of a slot that is written and read back. Assumes nothing.
use mathlib.Core.Path.{◌≡◌, refl, sym, ap, ◌∙◌}
use mathlib.Core.List.{List, [], ◌∷◌, ◌++◌}
use mathlib.Core.Bool.{Bool, true, false, cond, ◌&&◌, ◌||◌, or-true, or_assoc}
use Prim.Native.Nat.{ℕ, zero, suc, ◌+◌, ◌-◌, ◌*◌, ◌/◌, ◌%◌, ◌≤◌, ◌<◌}
use native.Mathlib.Numerals.{add-one}
use native.Mathlib.Omega.{arith}
use lib.Dec.{ltb, leb, eqb, lit<}
use lib.ListN.{length, drop, get_or, length-drop, drop_of_length-le}
use lib.Seq.{drop-nil, drop-cons, get_or-drop}
use borrow.Author.Tests.{ne_eqb, eqb-false, le-ltb, lt-ltb, lt-leb}
use Rattle.fields.proofs.Tests.{neither}
use Rattle.clog.specs.Slots.{bits_of, slot_of, codes}
use Rattle.clog.proofs.Codes.{length-codes, codes-slot}
use Rattle.xacts.specs.Pages.{written_as, read_as}
use Rattle.xacts.specs.Calls.{has}
use Rattle.xacts.specs.Inside.{four_of}

-- ---- one of the slots

pub has-not : (c : ℕ) (xs : List ℕ) → has c xs ≡ false → (i : ℕ) → i < length xs → get_or xs i 0 ≡ c → ⊥
unfolding has
has-not c [] h i l e = omega arith
has-not c (x ∷ xs) h zero l e = eqb-false x c (neither (eqb x c) (has c xs) h).0 e
has-not c (x ∷ xs) h (suc i) l e = has-not c xs (neither (eqb x c) (has c xs) h).1 i (omega arith) e

pub has-none : (c : ℕ) (xs : List ℕ) → ((i : ℕ) → i < length xs → get_or xs i 0 ≡ c → ⊥) → has c xs ≡ false
unfolding has
has-none c [] n = refl
has-none c (x ∷ xs) n = rw (ne_eqb x c (n 0 (omega arith))) (has-none c xs (λ i l. n (suc i) (omega arith)))

-- of a body's ids from w on
pub slot-not : (c w : ℕ) (bs : List ℕ) → has c (drop w (codes bs)) ≡ false → (t : ℕ) → w ≤ t → t < 4 * length bs → slot_of 0 bs t ≡ c → ⊥
slot-not c w bs h t l m e =
    let n : w + (t - w) ≡ t = omega arith in
    let d : length (drop w (codes bs)) ≡ 4 * length bs - w = length-drop w (codes bs) ∙ ap (λ (x : ℕ). x - w) (length-codes bs) in
    has-not c (drop w (codes bs)) h (t - w) (omega arith) (get_or-drop w (codes bs) (t - w) 0 ∙ rw n (codes-slot 0 bs t ∙ e))

pub slot-none : (c : ℕ) (bs : List ℕ) → ((t : ℕ) → slot_of 0 bs t ≡ c → ⊥) → has c (codes bs) ≡ false
slot-none c bs n = has-none c (codes bs) (λ i l e. n i (sym (codes-slot 0 bs i) ∙ e))

-- ---- a byte's part of it: the tests from the highest slot down

turned : (p q r s : Bool) → (p || (q || (r || (s || false)))) ≡ (s || (r || (q || p)))
turned true q r s = sym (ap (λ (x : Bool). s || (r || x)) (or-true q) ∙ ap (λ (x : Bool). s || x) (or-true r) ∙ or-true s)
turned false true r s = sym (ap (λ (x : Bool). s || x) (or-true r) ∙ or-true s)
turned false false true s = sym (or-true s)
turned false false false true = refl
turned false false false false = refl

-- the tests of the slots 3, 2, 1, 0 of which those under w do not count
abbrev pub tests : ℕ → ℕ → ℕ → ℕ → ℕ → ℕ → Bool
tests c w a0 a1 a2 a3 = (leb w 3 && eqb a3 c) || ((leb w 2 && eqb a2 c) || ((leb w 1 && eqb a1 c) || (leb w 0 && eqb a0 c)))

pub has-four : (c w a0 a1 a2 a3 : ℕ) → has c (drop w (a0 ∷ a1 ∷ a2 ∷ a3 ∷ [])) ≡ tests c w a0 a1 a2 a3
unfolding has
has-four c zero a0 a1 a2 a3 = turned (eqb a0 c) (eqb a1 c) (eqb a2 c) (eqb a3 c)
has-four c (suc zero) a0 a1 a2 a3 = turned false (eqb a1 c) (eqb a2 c) (eqb a3 c)
has-four c (suc (suc zero)) a0 a1 a2 a3 = turned false false (eqb a2 c) (eqb a3 c)
has-four c (suc (suc (suc zero))) a0 a1 a2 a3 = turned false false false (eqb a3 c)
has-four c (suc (suc (suc (suc w)))) a0 a1 a2 a3 =
    let v = suc (suc (suc (suc w))) in
    rw (drop-nil {A = ℕ} w, lt-leb v 3 (omega arith), lt-leb v 2 (omega arith), lt-leb v 1 (omega arith), lt-leb v 0 (omega arith))

-- by division and remainder, as the code asks
pub four-tests : (c w b : ℕ) → has c (drop w (four_of b)) ≡ tests c w (b % 4) (b / 4 % 4) (b / 16 % 4) (b / 64 % 4)
unfolding bits_of
four-tests c w b = let e : b / 1 % 4 ≡ b % 4 = omega arith in has-four c w (b / 1 % 4) (b / 4 % 4) (b / 16 % 4) (b / 64 % 4) ∙ rw e

-- ---- the loop over the bytes: the byte decides, or the rest does

has-append : (c : ℕ) (xs ys : List ℕ) → has c (xs ++ ys) ≡ (has c xs || has c ys)
unfolding has
has-append c [] ys = refl
has-append c (x ∷ xs) ys = rw (has-append c xs ys) (sym (or_assoc (eqb x c) (has c xs) (has c ys)))

drop-append : (w : ℕ) (xs ys : List ℕ) → drop w (xs ++ ys) ≡ drop w xs ++ drop (w - length xs) ys
drop-append zero xs ys = let e : 0 - length xs ≡ 0 = omega arith in rw e
drop-append (suc w) [] ys = let e : suc w - 0 ≡ suc w = omega arith in rw e
drop-append (suc w) (x ∷ xs) ys = let e : suc w - suc (length xs) ≡ w - length xs = omega arith in rw e (drop-append w xs ys)

has-next : (c w b : ℕ) (cs : List ℕ) → has c (drop w (four_of b ++ cs)) ≡ (has c (drop w (four_of b)) || has c (drop (w - 4) cs))
has-next c w b cs = rw (drop-append w (four_of b) cs) (has-append c (drop w (four_of b)) (drop (w - 4) cs))

module _ (c w : ℕ) (s : List ℕ) (i : ℕ) where
  next : i < length s → has c (drop w (codes (drop i s))) ≡ (has c (drop w (four_of (get_or s i 0))) || has c (drop (w - 4) (codes (drop (i + 1) s))))
  unfolding codes
  next h = rw (drop-cons s i 0 h, add-one) (has-next c w (get_or s i 0) (codes (drop (suc i) s)))

  pub found_here : i < length s → has c (drop w (four_of (get_or s i 0))) ≡ true → has c (drop w (codes (drop i s))) ≡ true
  found_here h e = next h ∙ rw e

  pub found-later : i < length s → has c (drop w (four_of (get_or s i 0))) ≡ false → has c (drop w (codes (drop i s))) ≡ has c (drop (w - 4) (codes (drop (i + 1) s)))
  found-later h e = next h ∙ rw e

  pub found_nowhere : length s ≤ i → has c (drop w (codes (drop i s))) ≡ false
  unfolding has codes
  found_nowhere h = rw (drop_of_length-le s h) (none w)
    where
      none : (v : ℕ) → has c (drop v (codes [])) ≡ false
      none zero = refl
      none (suc v) = refl

-- ---- a slot written, and read back

pub written_small : (mark t c : ℕ) → written_as mark t c < 3
unfolding written_as
written_small mark t c = go (ltb t mark) (eqb c 2) (eqb c 3)
  where
    go : (x y z : Bool) → cond x 1 (cond y 1 (cond z 2 0)) < 3
    go true y z = lit< tt
    go false true z = lit< tt
    go false false true = lit< tt
    go false false false = lit< tt

pub read_small : (c : ℕ) → read_as c < 4
unfolding read_as
read_small c = go (eqb c 1) (eqb c 2)
  where
    go : (x y : Bool) → cond x 2 (cond y 3 0) < 4
    go true y = lit< tt
    go false true = lit< tt
    go false false = lit< tt

pub read-zero : read_as 0 ≡ 0
unfolding read_as
read-zero = refl

-- below the mark: Committed, whatever the slot was
pub back_below : (mark t c : ℕ) → t < mark → read_as (written_as mark t c) ≡ 2
unfolding written_as read_as
back_below mark t c h = rw (lt-ltb t mark h)

-- at or above it: what it was, if it was not Active
pub back_above : (mark t c : ℕ) → mark ≤ t → c < 4 → (c ≡ 1 → ⊥) → read_as (written_as mark t c) ≡ c
unfolding written_as read_as
back_above mark t zero h l n = rw (le-ltb t mark h)
back_above mark t (suc zero) h l n = absurd (n refl)
back_above mark t (suc (suc zero)) h l n = rw (le-ltb t mark h)
back_above mark t (suc (suc (suc zero))) h l n = rw (le-ltb t mark h)
back_above mark t (suc (suc (suc (suc c)))) h l n = absurd (omega arith)
