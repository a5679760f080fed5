-- Laws of files: sizes, what the file holds after something was laid into it, byte by byte and whole, and after it was cut back to its header. Assumes nothing.
use mathlib.Core.Path.{◌≡◌, refl, sym, ◌∙◌}
use mathlib.Core.List.{List, ◌++◌}
use mathlib.Core.Bool.{Bool, true, false, ◌||◌}
use Prim.Native.Nat.{ℕ, ◌+◌, ◌-◌, ◌≤◌, ◌<◌, max}
use native.Mathlib.Omega.{arith}
use lib.Dec.{ltb}
use borrow.Author.Tests.{lt-ltb, le-ltb, ltb-false}
use lib.ListN.{length, take, drop, get_or, replicate, length-append, length-take, length-replicate, get_or-replicate, get_or-eq_default}
use lib.Seq.{sets, length-sets, sets-eq, length-take-le, get_or-take, take_at, ext_get_or}
use Rattle.fields.specs.Bytes.{Bytes}
use Rattle.fields.specs.Files.{File, file_of, content, room, lay, append, header, unfit}
use Rattle.fields.proofs.Tests.{Order, less, most, order}
use Rattle.fields.proofs.Stored.{sets-before, sets-in, sets-after}

pub byte-in : (n : ℕ) (xs : List ℕ) (i : ℕ) → i < n → get_or (take n xs) i 0 ≡ get_or xs i 0
byte-in n xs i h = get_or-take n xs i 0 h

pub byte_past : (n : ℕ) (xs : List ℕ) (i : ℕ) → n ≤ i → get_or (take n xs) i 0 ≡ 0
byte_past n xs i h = get_or-eq_default (take n xs) 0 (rw length-take (omega arith))

pub content-length : (f : File) → f.len ≤ room f → length (content f) ≡ f.len
content-length f h = length-take-le f.len f.bytes h

-- two files are one by their sizes, what they hold, and the buffers past that
pub file-ext : (f g : File) → room f ≡ room g → f.len ≡ g.len → ((i : ℕ) → get_or (content f) i 0 ≡ get_or (content g) i 0) →
    ((i : ℕ) → g.len ≤ i → get_or f.bytes i 0 ≡ get_or g.bytes i 0) → f ≡ g
file-ext f g size len same past = λ j. record { bytes = bytes j; len = len j }
  where
    go : (i : ℕ) → Order i g.len → get_or f.bytes i 0 ≡ get_or g.bytes i 0
    go i (less p) = sym (byte-in f.len f.bytes i (omega (arith, len))) ∙ same i ∙ byte-in g.len g.bytes i p
    go i (most p) = past i p

    bytes : f.bytes ≡ g.bytes
    bytes = ext_get_or 0 f.bytes g.bytes size (λ i l. go i (order i g.len))

-- files that agree on their first h bytes have the same header
pub same-front : (h : ℕ) (f g : File) → f.len ≤ room f → g.len ≤ room g → h ≤ f.len → h ≤ g.len →
    ((i : ℕ) → i < h → get_or (content g) i 0 ≡ get_or (content f) i 0) → take h (content g) ≡ take h (content f)
same-front h f g p q l m e =
    let a : length (take h (content g)) ≡ h = length-take-le h (content g) (omega (arith, content-length g q)) in
    let b : length (take h (content f)) ≡ h = length-take-le h (content f) (omega (arith, content-length f p)) in
    ext_get_or 0 (take h (content g)) (take h (content f)) (a ∙ sym b) (λ i j.
    let k : i < h = omega (arith, a) in
    get_or-take h (content g) i 0 k ∙ e i k ∙ sym (get_or-take h (content f) i 0 k))

module _ (f : File) (at : ℕ) (ys : List ℕ) where
  pub lay-room : room (lay f at ys) ≡ room f
  unfolding lay
  lay-room = rw (length-sets, length-sets)

  pub lay-len : (lay f at ys).len ≡ max f.len (at + length ys)
  unfolding lay
  lay-len = refl

  -- past the length and past what is laid the buffer stays
  pub lay-past : (i : ℕ) → max f.len (at + length ys) ≤ i → get_or (lay f at ys).bytes i 0 ≡ get_or f.bytes i 0
  unfolding lay
  lay-past i h =
      let l : f.len + length {A = ℕ} (replicate (at - f.len) 0) ≤ i = rw length-replicate (omega arith) in
      sets-after ys (sets f.bytes f.len (replicate (at - f.len) 0)) at i (omega arith) ∙ sets-after (replicate (at - f.len) 0) f.bytes f.len i l

  -- a place that is not past the length leaves no gap
  pub lay-within : at ≤ f.len → lay f at ys ≡ file_of (sets f.bytes at ys) (max f.len (at + length ys))
  unfolding lay
  lay-within h = let z : at - f.len ≡ 0 = omega arith in rw z

  module _ (fits : f.len ≤ room f) (room_for : at + length ys ≤ room f) where
    pub lay-in : (i : ℕ) → at ≤ i → i < at + length ys → get_or (content (lay f at ys)) i 0 ≡ get_or ys (i - at) 0
    unfolding lay
    lay-in i h l =
        let m : i < max f.len (at + length ys) = omega arith in
        let r : i < length (sets f.bytes f.len (replicate (at - f.len) 0)) = rw length-sets (omega arith) in
        byte-in (max f.len (at + length ys)) (lay f at ys).bytes i m
        ∙ sets-in ys (sets f.bytes f.len (replicate (at - f.len) 0)) at i h l r

    pub lay-before : (i : ℕ) → i < at → get_or (content (lay f at ys)) i 0 ≡ get_or (content f) i 0
    unfolding lay
    lay-before i h = go (order i f.len)
      where
        go : Order i f.len → get_or (content (lay f at ys)) i 0 ≡ get_or (content f) i 0
        go (less p) =
            byte-in (max f.len (at + length ys)) (lay f at ys).bytes i (omega arith)
            ∙ sets-before ys (sets f.bytes f.len (replicate (at - f.len) 0)) at i h
            ∙ sets-before (replicate (at - f.len) 0) f.bytes f.len i p
            ∙ sym (byte-in f.len f.bytes i p)
        go (most p) =
            let l : i < f.len + length {A = ℕ} (replicate (at - f.len) 0) = rw length-replicate (omega arith) in
            byte-in (max f.len (at + length ys)) (lay f at ys).bytes i (omega arith)
            ∙ sets-before ys (sets f.bytes f.len (replicate (at - f.len) 0)) at i h
            ∙ sets-in (replicate (at - f.len) 0) f.bytes f.len i p l (omega arith)
            ∙ get_or-replicate (at - f.len) (i - f.len) 0 0 (omega arith)
            ∙ sym (byte_past f.len f.bytes i p)

    pub lay-after : (i : ℕ) → at + length ys ≤ i → get_or (content (lay f at ys)) i 0 ≡ get_or (content f) i 0
    unfolding lay
    lay-after i h = go (order i f.len)
      where
        go : Order i f.len → get_or (content (lay f at ys)) i 0 ≡ get_or (content f) i 0
        go (less p) =
            byte-in (max f.len (at + length ys)) (lay f at ys).bytes i (omega arith)
            ∙ sets-after ys (sets f.bytes f.len (replicate (at - f.len) 0)) at i h
            ∙ sets-before (replicate (at - f.len) 0) f.bytes f.len i p
            ∙ sym (byte-in f.len f.bytes i p)
        go (most p) =
            byte_past (max f.len (at + length ys)) (lay f at ys).bytes i (omega arith) ∙ sym (byte_past f.len f.bytes i p)

    -- bytes laid into bytes are bytes
    pub lay-bytes : Bytes (content f) → Bytes ys → Bytes (content (lay f at ys))
    lay-bytes b g i = go (order i at) (order i (at + length ys))
      where
        go : Order i at → Order i (at + length ys) → get_or (content (lay f at ys)) i 0 < 256
        go (less p) q = rw (lay-before i p) (b i)
        go (most p) (less q) = rw (lay-in i p q) (g (i - at))
        go (most p) (most q) = rw (lay-after i q) (b i)

-- an append: a buffer's bytes and length, and the file whole
pub append-is : (f : File) (ys : List ℕ) → append f ys ≡ file_of (sets f.bytes f.len ys) (f.len + length ys)
append-is f ys = let m : max f.len (f.len + length ys) ≡ f.len + length ys = omega arith in lay-within f f.len ys (omega arith) ∙ rw m

pub append-content : (f : File) (ys : List ℕ) → f.len + length ys ≤ room f → content (append f ys) ≡ content f ++ ys
append-content f ys h =
    let l : length (take f.len f.bytes ++ ys) ≡ f.len + length ys = rw (length-append, length-take-le f.len f.bytes (omega arith)) in
    rw (append-is f ys, sets-eq ys f.bytes f.len h)
    (take_at (take f.len f.bytes ++ ys) (drop (f.len + length ys) f.bytes) (f.len + length ys) l)

-- a file cut back to its header
module _ (magic : List ℕ) (f : File) where
  pub header-room : room (header magic f) ≡ room f
  unfolding header
  header-room = length-sets f.bytes 0 magic

  pub header-len : (header magic f).len ≡ length magic
  unfolding header
  header-len = refl

  pub header-content : length magic ≤ room f → content (header magic f) ≡ magic
  unfolding header
  header-content h =
      let l : 0 + length magic ≤ length f.bytes = omega arith in
      rw (sets-eq magic f.bytes 0 l) (take_at magic (drop (0 + length magic) f.bytes) (length magic) refl)

-- ---- refusal 1

module _ (limit size len : ℕ) where
  pub fit-means : unfit limit size len ≡ false → (size ≤ limit) × (len ≤ size)
  unfolding unfit
  fit-means h = go (ltb limit size) (ltb size len) refl refl h
    where
      go : (x y : Bool) → ltb limit size ≡ x → ltb size len ≡ y → (x || y) ≡ false → (size ≤ limit) × (len ≤ size)
      go true y p q h = let z : ◌≡◌ {A = ℕ} 0 1 = cc in absurd (omega arith)
      go false true p q h = let z : ◌≡◌ {A = ℕ} 0 1 = cc in absurd (omega arith)
      go false false p q h = (ltb-false _ _ p, ltb-false _ _ q)

  pub unfit-size : limit < size → unfit limit size len ≡ true
  unfolding unfit
  unfit-size h = rw (lt-ltb limit size h)

  pub unfit-len : size ≤ limit → ltb size len ≡ unfit limit size len
  unfolding unfit
  unfit-len h = rw (le-ltb limit size h)

  pub fit-ok : size ≤ limit → len ≤ size → unfit limit size len ≡ false
  fit-ok h l = sym (unfit-len h) ∙ le-ltb size len l

-- which length it is does not matter, if it is within the buffer
pub unfit-same : (limit size a b : ℕ) → a ≤ size → b ≤ size → unfit limit size a ≡ unfit limit size b
unfolding unfit
unfit-same limit size a b h l = rw (le-ltb size a h, le-ltb size b l)
