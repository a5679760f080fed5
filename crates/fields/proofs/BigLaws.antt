-- Big-endian numbers and their bytes, over the width n: the round trip both ways, from the little-endian one, and what a turn of the loops that read and write
-- does. Assumes nothing.
use mathlib.Core.Path.{◌≡◌, refl, ap, ◌∙◌}
use mathlib.Core.List.{List, [], ◌∷◌, ◌++◌, reverse, reverse_aux, reverse-cons, reverse-append, reverse-reverse}
use Prim.Native.Nat.{ℕ, zero, suc, ◌+◌, ◌-◌, ◌*◌, ◌/◌, ◌%◌, ◌^◌, ◌≤◌, ◌<◌, min}
use native.Mathlib.Nat.{pow-suc, pow-le-pow_right}
use native.Mathlib.Numerals.{add-one}
use native.Mathlib.Omega.{arith}
use lib.Dec.{lit<}
use lib.ListN.{length, take, drop, get_or, set, length-drop, length-reverse}
use lib.Seq.{sets, set_comm, take-suc, get_or-drop}
use Rattle.fields.specs.Bytes.{le_of, bytes_of, be_of, big_bytes, Bytes}
use Rattle.fields.proofs.ByteLaws.{length-bytes_of, bytes_of-bytes, le_of-bytes_of, bytes_of-le_of, le_of-lt}
use Rattle.fields.proofs.Stored.{sets-append}

-- ---- bytes the other way round

bytes-aux : (xs ys : List ℕ) → Bytes xs → Bytes ys → Bytes (reverse_aux xs ys)
bytes-aux [] ys b g = g
bytes-aux (x ∷ xs) ys b g = bytes-aux xs (x ∷ ys) (λ i. b (suc i)) front
  where
    front : Bytes (x ∷ ys)
    front zero = b 0
    front (suc i) = g i

pub bytes-reverse : (xs : List ℕ) → Bytes xs → Bytes (reverse xs)
bytes-reverse xs b = bytes-aux xs [] b (λ i. lit< tt)

-- ---- the round trip

pub length-big_bytes : (n v : ℕ) → length (big_bytes n v) ≡ n
unfolding big_bytes
length-big_bytes n v = length-reverse (bytes_of n v) ∙ length-bytes_of n v

pub big_bytes-bytes : (n v : ℕ) → Bytes (big_bytes n v)
unfolding big_bytes
big_bytes-bytes n v = bytes-reverse (bytes_of n v) (bytes_of-bytes n v)

-- n bytes hold a number below 256 ^ n
pub be_of-big_bytes : (n v : ℕ) → v < 256 ^ n → be_of (big_bytes n v) ≡ v
unfolding be_of big_bytes
be_of-big_bytes n v h = rw (reverse-reverse (bytes_of n v)) (le_of-bytes_of n v h)

-- and n bytes are those of their number
pub big_bytes-be_of : (xs : List ℕ) → Bytes xs → big_bytes (length xs) (be_of xs) ≡ xs
unfolding be_of big_bytes
big_bytes-be_of xs b =
    ap reverse (rw (length-reverse xs) at (bytes_of-le_of (reverse xs) (bytes-reverse xs b))) ∙ reverse-reverse xs

pub be_of-lt : (xs : List ℕ) → Bytes xs → be_of xs < 256 ^ length xs
unfolding be_of
be_of-lt xs b = rw (length-reverse xs) at (le_of-lt (reverse xs) (bytes-reverse xs b))

-- ---- a turn of the loop that reads: the byte after those that are read becomes the low byte

be_of-snoc : (xs : List ℕ) (x : ℕ) → be_of (xs ++ (x ∷ [])) ≡ be_of xs * 256 + x
unfolding be_of le_of
be_of-snoc xs x = rw (reverse-append xs (x ∷ [])) (omega arith)

pub big-none : be_of [] ≡ 0
unfolding be_of le_of
big-none = refl

pub big-more : (b : List ℕ) (at n i v : ℕ) → i < min n (length b - at) → v ≡ be_of (take i (drop at b)) → v * 256 + get_or b (at + i) 0 ≡ be_of (take (i + 1) (drop at b))
big-more b at n i v h e =
    let l : i < length (drop at b) = rw length-drop (omega arith) in
    rw (add-one i, take-suc (drop at b) i 0 l, be_of-snoc (take i (drop at b)) (get_or (drop at b) i 0), get_or-drop at b i 0, e)

pub big-bound : (i v x : ℕ) → v < 256 ^ i → x < 256 → v * 256 + x < 256 ^ (i + 1)
big-bound i v x h l = rw (add-one i, pow-suc) (omega arith)

-- so the number fits a word of eight bytes
pub big-word : (i v x : ℕ) → i < 8 → v < 256 ^ i → x < 256 → v * 256 + x < 2 ^ 64
big-word i v x w h l =
    let e : i + 1 ≤ 8 = omega arith in
    let m : 256 ^ (i + 1) ≤ 256 ^ 8 = pow-le-pow_right (lit< tt) e in
    omega (arith, big-bound i v x h l)

pub big-wide : (k n : ℕ) → k ≤ n → 256 ^ k ≤ 256 ^ n
big-wide k n h = pow-le-pow_right (lit< tt) h

-- ---- a turn of the loop that writes: the last byte of those that are left goes in

big_bytes-snoc : (n v : ℕ) → big_bytes (suc n) v ≡ big_bytes n (v / 256) ++ (v % 256 ∷ [])
unfolding big_bytes bytes_of
big_bytes-snoc n v = reverse-cons (v % 256) (bytes_of n (v / 256))

-- a byte past those that are stored may be stored first
sets-past : (xs l : List ℕ) (at j y : ℕ) → at + length xs ≤ j → sets (set l j y) at xs ≡ set (sets l at xs) j y
sets-past [] l at j y h = refl
sets-past (x ∷ xs) l at j y h =
    ap (λ (t : List ℕ). sets t (suc at) xs) (set_comm l j at y x (λ e. omega arith)) ∙ sets-past xs (set l at x) (suc at) j y (omega arith)

pub big-turn : (b c : List ℕ) (at i v : ℕ) → 0 < i → c ≡ set b (at + (i - 1)) (v % 256) → sets c at (big_bytes (i - 1) (v / 256)) ≡ sets b at (big_bytes i v)
big-turn b c at zero v h e = absurd (omega arith)
big-turn b c at (suc i) v h e =
    let d : suc i - 1 ≡ i = omega arith in
    let l : at + length (big_bytes i (v / 256)) ≡ at + i = rw length-big_bytes in
    rw (e, d, big_bytes-snoc i v, sets-append, l) (sets-past (big_bytes i (v / 256)) b at (at + i) (v % 256) (omega arith))

pub big-end : (b : List ℕ) (at i v : ℕ) → i ≡ 0 → sets b at (big_bytes i v) ≡ b
unfolding big_bytes bytes_of
big-end b at i v z = rw z
