-- The bytes of the library's integers are those of `bytes_of` and `big_bytes`, and its readings are `le_of` and `be_of`. Assumes nothing.
use Rattle.std.proofs.Common.{◌≡◌, ℕ, zero, suc, ◌+◌, ◌*◌, ◌-◌, ◌^◌, ◌<◌, ◌≤◌, List, [], ◌∷◌, ◌++◌, length, take, drop, replicate, reverse, min, append-nil, refl, sym, ap, ◌∙◌, arith}
use Rattle.std.proofs.lemmas.List.Edits.{sets, sets-eq}
use Rattle.std.proofs.lemmas.List.{take-replicate, reverse-append, length-reverse}
use lib.Seq.{take_all}
use lib.ListN.{length-append, length-take, length-drop, length-replicate, drop_of_length-le}
use Rattle.std.specs.Int.{w32, w64, from_le_bytes, to_le_bytes, from_be_bytes, to_be_bytes}
use Rattle.std.proofs.lemmas.Nat.{le_bytes_4, le_bytes_8}
use Rattle.fields.specs.Bytes.{le_of, be_of, bytes_of, big_bytes, part, field, big_field}
use Rattle.fields.proofs.Lists.{first-min}
use Rattle.fields.proofs.Stored.{sets-out, sets-shift}
use Rattle.fields.proofs.ByteLaws.{length_part, length-bytes_of, bytes_of-bytes, le_of-bytes_of}

read-4 : (xs : List ℕ) → length xs ≡ 4 → from_le_bytes w32 xs ≡ le_of xs
unfolding le_of
read-4 [] e = absurd (omega arith)
read-4 (a ∷ []) e = absurd (omega arith)
read-4 (a ∷ b ∷ []) e = absurd (omega arith)
read-4 (a ∷ b ∷ c ∷ []) e = absurd (omega arith)
read-4 (a ∷ b ∷ c ∷ d ∷ []) e = omega arith
read-4 (a ∷ b ∷ c ∷ d ∷ x ∷ xs) e = absurd (omega arith)

read-8 : (xs : List ℕ) → length xs ≡ 8 → from_le_bytes w64 xs ≡ le_of xs
unfolding le_of
read-8 [] e = absurd (omega arith)
read-8 (a ∷ []) e = absurd (omega arith)
read-8 (a ∷ b ∷ []) e = absurd (omega arith)
read-8 (a ∷ b ∷ c ∷ []) e = absurd (omega arith)
read-8 (a ∷ b ∷ c ∷ d ∷ []) e = absurd (omega arith)
read-8 (a ∷ b ∷ c ∷ d ∷ f ∷ []) e = absurd (omega arith)
read-8 (a ∷ b ∷ c ∷ d ∷ f ∷ g ∷ []) e = absurd (omega arith)
read-8 (a ∷ b ∷ c ∷ d ∷ f ∷ g ∷ h ∷ []) e = absurd (omega arith)
read-8 (a ∷ b ∷ c ∷ d ∷ f ∷ g ∷ h ∷ i ∷ []) e = omega arith
read-8 (a ∷ b ∷ c ∷ d ∷ f ∷ g ∷ h ∷ i ∷ x ∷ xs) e = absurd (omega arith)

-- the other way round the bytes are the same
turned-4 : (xs : List ℕ) → length xs ≡ 4 → from_be_bytes w32 xs ≡ from_le_bytes w32 (reverse xs)
turned-4 [] e = absurd (omega arith)
turned-4 (a ∷ []) e = absurd (omega arith)
turned-4 (a ∷ b ∷ []) e = absurd (omega arith)
turned-4 (a ∷ b ∷ c ∷ []) e = absurd (omega arith)
turned-4 (a ∷ b ∷ c ∷ d ∷ []) e = omega arith
turned-4 (a ∷ b ∷ c ∷ d ∷ x ∷ xs) e = absurd (omega arith)

turned-8 : (xs : List ℕ) → length xs ≡ 8 → from_be_bytes w64 xs ≡ from_le_bytes w64 (reverse xs)
turned-8 [] e = absurd (omega arith)
turned-8 (a ∷ []) e = absurd (omega arith)
turned-8 (a ∷ b ∷ []) e = absurd (omega arith)
turned-8 (a ∷ b ∷ c ∷ []) e = absurd (omega arith)
turned-8 (a ∷ b ∷ c ∷ d ∷ []) e = absurd (omega arith)
turned-8 (a ∷ b ∷ c ∷ d ∷ f ∷ []) e = absurd (omega arith)
turned-8 (a ∷ b ∷ c ∷ d ∷ f ∷ g ∷ []) e = absurd (omega arith)
turned-8 (a ∷ b ∷ c ∷ d ∷ f ∷ g ∷ h ∷ []) e = absurd (omega arith)
turned-8 (a ∷ b ∷ c ∷ d ∷ f ∷ g ∷ h ∷ i ∷ []) e = omega arith
turned-8 (a ∷ b ∷ c ∷ d ∷ f ∷ g ∷ h ∷ i ∷ x ∷ xs) e = absurd (omega arith)

-- zeros past the end of what is read add nothing
zeros : (n m : ℕ) → le_of (take n (replicate m 0)) ≡ 0
unfolding le_of
zeros zero m = refl
zeros (suc n) zero = refl
zeros (suc n) (suc m) = rw (zeros n m)

padded : (n m : ℕ) (xs : List ℕ) → le_of (take n (xs ++ replicate m 0)) ≡ le_of (take n xs)
unfolding le_of
padded zero m xs = refl
padded (suc n) m [] = zeros (suc n) m
padded (suc n) m (x ∷ xs) = ap (λ k. x + 256 * k) (padded n m xs)

pub read-part : (n : ℕ) (xs : List ℕ) (at : ℕ) → le_of (part n xs at) ≡ field n at xs
unfolding part
read-part n xs at = padded n n (drop at xs)

-- the N bytes of a zeroed array that bytes were laid over
laid-zeros : (n m : ℕ) (ys : List ℕ) → n ≤ m → sets (replicate n 0) 0 ys ≡ take n (ys ++ replicate m 0)
laid-zeros zero m ys h = sets-out ys [] 0 (omega arith)
laid-zeros (suc n) m [] h = sym (take-replicate (suc n) m 0 h)
laid-zeros (suc n) m (y ∷ ys) h = sets-shift y (replicate n 0) 0 ys ∙ ap (λ t. y ∷ t) (laid-zeros n m ys (omega arith))

pub part-laid : (n : ℕ) (xs : List ℕ) (at : ℕ) → sets (replicate n 0) 0 (take (length xs - at) (drop at xs)) ≡ part n xs at
unfolding part
part-laid n xs at =
    let whole : length (drop at xs) ≤ length xs - at = rw length-drop (omega arith) in
    rw (take_all (length xs - at) (drop at xs) whole) (laid-zeros n n (drop at xs) (omega arith))

pub part-past : (n : ℕ) (xs : List ℕ) (at : ℕ) → length xs ≤ at → replicate n 0 ≡ part n xs at
unfolding part
part-past n xs at h = rw (drop_of_length-le xs h) (sym (take-replicate n n 0 (omega arith)))

-- zeros before the highest byte add nothing
after-zeros : (m : ℕ) (xs : List ℕ) → le_of (xs ++ replicate m 0) ≡ le_of xs
unfolding le_of
after-zeros zero [] = refl
after-zeros (suc m) [] = rw (after-zeros m [])
after-zeros m (x ∷ xs) = rw (after-zeros m xs)

before-zeros : (m : ℕ) (xs : List ℕ) → be_of (replicate m 0 ++ xs) ≡ be_of xs
unfolding be_of
before-zeros zero xs = refl
before-zeros (suc m) xs = rw (reverse-append (0 ∷ []) (replicate m 0 ++ xs)) (after-zeros 1 (reverse (replicate m 0 ++ xs))) ∙ before-zeros m xs

-- a part at the end of an array of zeros
pub last-laid : (n k at : ℕ) (xs ys : List ℕ) → k ≡ min n (length xs - at) → ys ≡ take k (drop at xs) →
    sets (replicate n 0) (n - k) ys ≡ replicate (n - length (take n (drop at xs))) 0 ++ take n (drop at xs)
last-laid n k at xs ys e f =
    let l : length (drop at xs) ≡ length xs - at = length-drop at xs in
    let t : take k (drop at xs) ≡ take n (drop at xs) = first-min k n (drop at xs) (omega arith) in
    let q : length (take n (drop at xs)) ≡ k = length-take n (drop at xs) ∙ omega arith in
    let y : length ys ≡ k = ap length (f ∙ t) ∙ q in
    let z : length {A = ℕ} (replicate n 0) ≡ n = length-replicate n 0 in
    let r : take {A = ℕ} (n - k) (replicate n 0) ≡ replicate (n - k) 0 = take-replicate (n - k) n 0 (omega arith) in
    let d : drop {A = ℕ} (n - k + k) (replicate n 0) ≡ [] = drop_of_length-le (replicate n 0) (omega arith) in
    sets-eq ys (replicate n 0) (n - k) (omega arith) ∙ rw (y, r, d, append-nil, q, f, t)

read-last-4 : (n at : ℕ) (xs : List ℕ) → length (replicate (n - length (take n (drop at xs))) 0 ++ take n (drop at xs)) ≡ n
read-last-4 n at xs = rw (length-append, length-replicate, length-take) (omega arith)

pub get-4 : (r at : ℕ) (b xs : List ℕ) → xs ≡ part 4 b at → r ≡ from_le_bytes w32 xs → r ≡ field 4 at b
get-4 r at b xs e f = f ∙ rw e (read-4 (part 4 b at) (length_part 4 b at)) ∙ read-part 4 b at

pub get-8 : (r at : ℕ) (b xs : List ℕ) → xs ≡ part 8 b at → r ≡ from_le_bytes w64 xs → r ≡ field 8 at b
get-8 r at b xs e f = f ∙ rw e (read-8 (part 8 b at) (length_part 8 b at)) ∙ read-part 8 b at

big-last : (n at : ℕ) (b : List ℕ) → be_of (replicate (n - length (take n (drop at b))) 0 ++ take n (drop at b)) ≡ big_field n at b
big-last n at b = before-zeros (n - length (take n (drop at b))) (take n (drop at b))

pub get-big-4 : (r at : ℕ) (b xs : List ℕ) → xs ≡ replicate (4 - length (take 4 (drop at b))) 0 ++ take 4 (drop at b) → r ≡ from_be_bytes w32 xs → r ≡ big_field 4 at b
unfolding be_of
get-big-4 r at b xs e f =
    let n : length xs ≡ 4 = rw e (read-last-4 4 at b) in
    f ∙ turned-4 xs n ∙ read-4 (reverse xs) (length-reverse xs ∙ n) ∙ rw e (big-last 4 at b)

pub get-big-8 : (r at : ℕ) (b xs : List ℕ) → xs ≡ replicate (8 - length (take 8 (drop at b))) 0 ++ take 8 (drop at b) → r ≡ from_be_bytes w64 xs → r ≡ big_field 8 at b
unfolding be_of
get-big-8 r at b xs e f =
    let n : length xs ≡ 8 = rw e (read-last-4 8 at b) in
    f ∙ turned-8 xs n ∙ read-8 (reverse xs) (length-reverse xs ∙ n) ∙ rw e (big-last 8 at b)

-- what is written
pub write-4 : (v : ℕ) → v < 2 ^ 32 → to_le_bytes w32 v ≡ bytes_of 4 v
write-4 v h =
    let n = length-bytes_of 4 v in
    le_bytes_4 (bytes_of 4 v) v n (bytes_of-bytes 4 v) (sym (read-4 (bytes_of 4 v) n ∙ le_of-bytes_of 4 v (omega arith)))

pub write-8 : (v : ℕ) → v < 2 ^ 64 → to_le_bytes w64 v ≡ bytes_of 8 v
write-8 v h =
    let n = length-bytes_of 8 v in
    le_bytes_8 (bytes_of 8 v) v n (bytes_of-bytes 8 v) (sym (read-8 (bytes_of 8 v) n ∙ le_of-bytes_of 8 v (omega arith)))

pub write-big-4 : (v : ℕ) → v < 2 ^ 32 → to_be_bytes w32 v ≡ big_bytes 4 v
unfolding big_bytes
write-big-4 v h = rw (← write-4 v h)

pub write-big-8 : (v : ℕ) → v < 2 ^ 64 → to_be_bytes w64 v ≡ big_bytes 8 v
unfolding big_bytes
write-big-8 v h = rw (← write-8 v h)
