-- Replay absorbs: a log's images laid over a database leave the same file, whatever stood under them. Lengths, bytes, and replay of a log that goes on or
-- runs again. P is the page size. Assumes nothing.
use mathlib.Core.Path.{◌≡◌, refl, sym, ap, ◌∙◌}
use mathlib.Core.List.{List, [], ◌∷◌, ◌++◌, map}
use mathlib.Core.Bool.{Bool, true, false, cond, ◌&&◌, ◌||◌}
use Prim.Native.Nat.{ℕ, ◌+◌, ◌-◌, ◌*◌, ◌≤◌, ◌<◌, max}
use native.Mathlib.Omega.{arith}
use lib.Dec.{ltb, leb}
use lib.ListN.{length, get_or}
use borrow.Author.Tests.{lt-ltb, le-ltb, le-leb, lt-leb, ltb-false}
use Rattle.fields.specs.Files.{File, content, room, lay}
use Rattle.fields.proofs.Tests.{Order, less, most, order, neither}
use Rattle.fields.proofs.FileLaws.{file-ext, lay-room, lay-len, lay-past, lay-in, lay-before, lay-after}
use Rattle.wal.specs.Records.{Record, image, begin, commit, abort, checkpoint}
use Rattle.frames.specs.Pages.{bad_page}
use Rattle.world.specs.Refusals.{any_of}
use Rattle.opening.specs.Opening.{laid_by, replay, past_db}

-- ---- a byte under images

-- byte i lies in an image
abbrev pub in_image : ℕ → Record → ℕ → Bool
in_image P (image p bs) i = leb (p * P) i && ltb i (p * P + length bs)
in_image P (begin id) i = false
in_image P (commit id t) i = false
in_image P (abort id) i = false
in_image P checkpoint i = false

unfoldable pub covered : ℕ → List Record → ℕ → Bool
covered P [] i = false
covered P (r ∷ rs) i = in_image P r i || covered P rs i

-- what byte i becomes, which was b
abbrev pub imaged : ℕ → Record → ℕ → ℕ → ℕ
imaged P (image p bs) i b = cond (in_image P (image p bs) i) (get_or bs (i - p * P) 0) b
imaged P (begin id) i b = b
imaged P (commit id t) i b = b
imaged P (abort id) i b = b
imaged P checkpoint i b = b

unfoldable pub imaged_all : ℕ → List Record → ℕ → ℕ → ℕ
imaged_all P [] i b = b
imaged_all P (r ∷ rs) i b = imaged_all P rs i (imaged P r i b)

pub imaged-append : (P : ℕ) (rs ss : List Record) (i b : ℕ) → imaged_all P (rs ++ ss) i b ≡ imaged_all P ss i (imaged_all P rs i b)
unfolding imaged_all
imaged-append P [] ss i b = refl
imaged-append P (r ∷ rs) ss i b = imaged-append P rs ss i (imaged P r i b)

module _ (P p : ℕ) (bs : List ℕ) (i : ℕ) where
  pub in_image_lem : p * P ≤ i → i < p * P + length bs → in_image P (image p bs) i ≡ true
  in_image_lem h l = rw (le-leb (p * P) i h, lt-ltb i (p * P + length bs) l)

  pub before-image : i < p * P → in_image P (image p bs) i ≡ false
  before-image h = rw (lt-leb (p * P) i h)

  pub after-image : p * P + length bs ≤ i → in_image P (image p bs) i ≡ false
  after-image h = let l : p * P ≤ i = omega arith in rw (le-leb (p * P) i l, le-ltb i (p * P + length bs) h)

  module _ (b : ℕ) where
    pub imaged-in : p * P ≤ i → i < p * P + length bs → imaged P (image p bs) i b ≡ get_or bs (i - p * P) 0
    imaged-in h l = rw (in_image_lem h l)

    pub imaged-before : i < p * P → imaged P (image p bs) i b ≡ b
    imaged-before h = rw (before-image h)

    pub imaged-after : p * P + length bs ≤ i → imaged P (image p bs) i b ≡ b
    imaged-after h = rw (after-image h)

imaged-apart : (P : ℕ) (r : Record) (i b : ℕ) → in_image P r i ≡ false → imaged P r i b ≡ b
imaged-apart P (image p bs) i b h = rw h
imaged-apart P (begin id) i b h = refl
imaged-apart P (commit id t) i b h = refl
imaged-apart P (abort id) i b h = refl
imaged-apart P checkpoint i b h = refl

imaged_over : (P : ℕ) (r : Record) (i b c : ℕ) → in_image P r i ≡ true → imaged P r i b ≡ imaged P r i c
imaged_over P (image p bs) i b c h = rw h
imaged_over P (begin id) i b c h = let z : false ≡ true = h in cc
imaged_over P (commit id t) i b c h = let z : false ≡ true = h in cc
imaged_over P (abort id) i b c h = let z : false ≡ true = h in cc
imaged_over P checkpoint i b c h = let z : false ≡ true = h in cc

-- a byte in no image stays
pub uncovered : (P : ℕ) (rs : List Record) (i b : ℕ) → covered P rs i ≡ false → imaged_all P rs i b ≡ b
unfolding covered imaged_all
uncovered P [] i b h = refl
uncovered P (r ∷ rs) i b h =
    let n = neither (in_image P r i) (covered P rs i) h in
    uncovered P rs i (imaged P r i b) n.1 ∙ imaged-apart P r i b n.0

-- and one in an image does not depend on what stood there
pub overlaid : (P : ℕ) (rs : List Record) (i b c : ℕ) → covered P rs i ≡ true → imaged_all P rs i b ≡ imaged_all P rs i c
unfolding covered imaged_all
overlaid P [] i b c h = let z : false ≡ true = h in cc
overlaid P (r ∷ rs) i b c h = go (in_image P r i) refl (overlaid P rs i (imaged P r i b) (imaged P r i c))
  where
    go : (x : Bool) → in_image P r i ≡ x → (covered P rs i ≡ true → imaged_all P rs i (imaged P r i b) ≡ imaged_all P rs i (imaged P r i c)) →
        imaged_all P rs i (imaged P r i b) ≡ imaged_all P rs i (imaged P r i c)
    go true e ih = ap (imaged_all P rs i) (imaged_over P r i b c e)
    go false e ih = ih (rw e at h)

-- ---- how far images reach

-- where an image ends
abbrev pub image_end : ℕ → Record → ℕ
image_end P (image p bs) = p * P + length bs
image_end P (begin id) = 0
image_end P (commit id t) = 0
image_end P (abort id) = 0
image_end P checkpoint = 0

-- the furthest end
unfoldable pub reach : ℕ → List Record → ℕ
reach P [] = 0
reach P (r ∷ rs) = max (image_end P r) (reach P rs)

-- refusal 5 did not come: all images have room
end-room : (P size : ℕ) (r : Record) → past_db P size r ≡ false → image_end P r ≤ size
end-room P size (image p bs) h = ltb-false size (p * P + length bs) (neither (bad_page p) (ltb size (p * P + length bs)) h).1
end-room P size (begin id) h = omega arith
end-room P size (commit id t) h = omega arith
end-room P size (abort id) h = omega arith
end-room P size checkpoint h = omega arith

pub reach-room : (P size : ℕ) (rs : List Record) → any_of (map (past_db P size) rs) ≡ false → reach P rs ≤ size
unfolding reach any_of
reach-room P size [] h = omega arith
reach-room P size (r ∷ rs) h =
    let n = neither (past_db P size r) (any_of (map (past_db P size) rs)) h in
    let a : image_end P r ≤ size = end-room P size r n.0 in
    let b : reach P rs ≤ size = reach-room P size rs n.1 in
    omega arith

-- ---- one record

laid-room : (P : ℕ) (r : Record) (f : File) → room (laid_by P r f) ≡ room f
laid-room P (image p bs) f = lay-room f (p * P) bs
laid-room P (begin id) f = refl
laid-room P (commit id t) f = refl
laid-room P (abort id) f = refl
laid-room P checkpoint f = refl

laid-len : (P : ℕ) (r : Record) (f : File) → (laid_by P r f).len ≡ max f.len (image_end P r)
laid-len P (image p bs) f = lay-len f (p * P) bs
laid-len P (begin id) f = omega arith
laid-len P (commit id t) f = omega arith
laid-len P (abort id) f = omega arith
laid-len P checkpoint f = omega arith

-- past the image and past the length the buffer stays
laid-past : (P : ℕ) (r : Record) (f : File) (i : ℕ) → max f.len (image_end P r) ≤ i → get_or (laid_by P r f).bytes i 0 ≡ get_or f.bytes i 0
laid-past P (image p bs) f i h = lay-past f (p * P) bs i h
laid-past P (begin id) f i h = refl
laid-past P (commit id t) f i h = refl
laid-past P (abort id) f i h = refl
laid-past P checkpoint f i h = refl

image-byte : (P p : ℕ) (bs : List ℕ) (f : File) → f.len ≤ room f → p * P + length bs ≤ room f → (i : ℕ) →
    get_or (content (lay f (p * P) bs)) i 0 ≡ imaged P (image p bs) i (get_or (content f) i 0)
image-byte P p bs f h l i = go (order i (p * P)) (order i (p * P + length bs))
  where
    go : Order i (p * P) → Order i (p * P + length bs) → get_or (content (lay f (p * P) bs)) i 0 ≡ imaged P (image p bs) i (get_or (content f) i 0)
    go (less q) r = lay-before f (p * P) bs h l i q ∙ sym (imaged-before P p bs i (get_or (content f) i 0) q)
    go (most q) (less r) = lay-in f (p * P) bs h l i q r ∙ sym (imaged-in P p bs i (get_or (content f) i 0) q r)
    go (most q) (most r) = lay-after f (p * P) bs h l i r ∙ sym (imaged-after P p bs i (get_or (content f) i 0) r)

laid-byte : (P : ℕ) (r : Record) (f : File) → f.len ≤ room f → image_end P r ≤ room f → (i : ℕ) →
    get_or (content (laid_by P r f)) i 0 ≡ imaged P r i (get_or (content f) i 0)
laid-byte P (image p bs) f h l i = image-byte P p bs f h l i
laid-byte P (begin id) f h l i = refl
laid-byte P (commit id t) f h l i = refl
laid-byte P (abort id) f h l i = refl
laid-byte P checkpoint f h l i = refl

-- ---- all records

pub replay-room : (P : ℕ) (rs : List Record) (db : File) → room (replay P rs db) ≡ room db
unfolding replay
replay-room P [] db = refl
replay-room P (r ∷ rs) db = replay-room P rs (laid_by P r db) ∙ laid-room P r db

-- the length is the old one, or the furthest image's end
pub replay-len : (P : ℕ) (rs : List Record) (db : File) → (replay P rs db).len ≡ max db.len (reach P rs)
unfolding replay reach
replay-len P [] db = omega arith
replay-len P (r ∷ rs) db = replay-len P rs (laid_by P r db) ∙ rw (laid-len P r db) (omega arith)

-- past both the buffer is left alone
pub replay-past : (P : ℕ) (rs : List Record) (db : File) (i : ℕ) → max db.len (reach P rs) ≤ i → get_or (replay P rs db).bytes i 0 ≡ get_or db.bytes i 0
unfolding replay reach
replay-past P [] db i h = refl
replay-past P (r ∷ rs) db i h =
    let n : max (laid_by P r db).len (reach P rs) ≤ i = rw (laid-len P r db) (omega arith) in
    replay-past P rs (laid_by P r db) i n ∙ laid-past P r db i (omega arith)

-- and every byte of the file is that of the last image over it, or the old one
pub replay-byte : (P : ℕ) (rs : List Record) (db : File) → db.len ≤ room db → reach P rs ≤ room db → (i : ℕ) →
    get_or (content (replay P rs db)) i 0 ≡ imaged_all P rs i (get_or (content db) i 0)
unfolding replay reach imaged_all
replay-byte P [] db h l i = refl
replay-byte P (r ∷ rs) db h l i =
    let n : (laid_by P r db).len ≤ room (laid_by P r db) = rw (laid-len P r db, laid-room P r db) (omega arith) in
    let m : reach P rs ≤ room (laid_by P r db) = rw (laid-room P r db) (omega arith) in
    replay-byte P rs (laid_by P r db) n m i ∙ ap (imaged_all P rs i) (laid-byte P r db h (omega arith) i)

pub replay-inside : (P : ℕ) (rs : List Record) (db : File) → db.len ≤ room db → reach P rs ≤ room db → (replay P rs db).len ≤ room (replay P rs db)
replay-inside P rs db h l = rw (replay-len P rs db, replay-room P rs db) (omega arith)

-- the same by the test that an opening makes
pub replay-fits : (P : ℕ) (rs : List Record) (db : File) → any_of (map (past_db P (room db)) rs) ≡ false → db.len ≤ room db → (replay P rs db).len ≤ room db
replay-fits P rs db b h =
    let l : reach P rs ≤ room db = reach-room P (room db) rs b in
    rw (replay-len P rs db) (omega arith)

-- ---- two databases that a log makes one

-- they differ under its images only, in bytes or in length; bytes past a file's end count as zeros
record Near (P : ℕ) (rs : List Record) (db db' : File) : Type 0 where
  size : room db' ≡ room db
  lens : max db'.len (reach P rs) ≡ max db.len (reach P rs)
  same : (i : ℕ) → covered P rs i ≡ false → get_or (content db') i 0 ≡ get_or (content db) i 0

module _ (P : ℕ) (rs : List Record) (db db' : File) (fits : db.len ≤ room db) (has : reach P rs ≤ room db) (n : Near P rs db db') where
  fits' : db'.len ≤ room db'
  fits' = omega (arith, n.size, n.lens)

  has' : reach P rs ≤ room db'
  has' = omega (arith, n.size)

  near-len : (replay P rs db').len ≡ (replay P rs db).len
  near-len = replay-len P rs db' ∙ n.lens ∙ sym (replay-len P rs db)

  near_byte : (i : ℕ) → get_or (content (replay P rs db')) i 0 ≡ get_or (content (replay P rs db)) i 0
  near_byte i = replay-byte P rs db' fits' has' i ∙ go (covered P rs i) refl ∙ sym (replay-byte P rs db fits has i)
    where
      go : (x : Bool) → covered P rs i ≡ x → imaged_all P rs i (get_or (content db') i 0) ≡ imaged_all P rs i (get_or (content db) i 0)
      go true e = overlaid P rs i (get_or (content db') i 0) (get_or (content db) i 0) e
      go false e = ap (imaged_all P rs i) (n.same i e)

  -- they are one file, if their buffers were the same past both
  absorbs : ((i : ℕ) → max db.len (reach P rs) ≤ i → get_or db'.bytes i 0 ≡ get_or db.bytes i 0) → replay P rs db' ≡ replay P rs db
  absorbs past =
      let s : room (replay P rs db') ≡ room (replay P rs db) = replay-room P rs db' ∙ n.size ∙ sym (replay-room P rs db) in
      file-ext (replay P rs db') (replay P rs db) s near-len near_byte
      (λ i p.
      let q : max db.len (reach P rs) ≤ i = omega (arith, replay-len P rs db) in
      replay-past P rs db' i (rw n.lens q) ∙ past i q ∙ sym (replay-past P rs db i q))

-- ---- anything laid under images

module _ (P : ℕ) (rs : List Record) (f : File) (fits : f.len ≤ room f) (has : reach P rs ≤ room f) where
  module _ (at : ℕ) (ys : List ℕ) (end : at + length ys ≤ max f.len (reach P rs)) where
    lay-near : ((i : ℕ) → at ≤ i → i < at + length ys → covered P rs i ≡ true) → Near P rs f (lay f at ys)
    lay-near c =
        record {
          size = lay-room f at ys;
          lens = rw (lay-len f at ys) (omega arith);
          same = λ i e. go i e (order i at) (order i (at + length ys));
        }
      where
        go : (i : ℕ) → covered P rs i ≡ false → Order i at → Order i (at + length ys) → get_or (content (lay f at ys)) i 0 ≡ get_or (content f) i 0
        go i e (less p) q = lay-before f at ys fits (omega arith) i p
        go i e (most p) (less q) = let z : true ≡ false = sym (c i p q) ∙ e in cc
        go i e (most p) (most q) = lay-after f at ys fits (omega arith) i q

    pub lay-absorbed : ((i : ℕ) → at ≤ i → i < at + length ys → covered P rs i ≡ true) → replay P rs (lay f at ys) ≡ replay P rs f
    lay-absorbed c = absorbs P rs f (lay f at ys) fits has (lay-near c) (λ i h. lay-past f at ys i (omega arith))

-- ---- a database that a log does not alter

abbrev pub Agrees : ℕ → List Record → File → Type 0
Agrees P rs db = (i : ℕ) → imaged_all P rs i (get_or (content db) i 0) ≡ get_or (content db) i 0

pub agrees-none : (P : ℕ) (db : File) → Agrees P [] db
unfolding imaged_all
agrees-none P db i = refl

pub replay-still : (P : ℕ) (rs : List Record) (db : File) → db.len ≤ room db → reach P rs ≤ db.len → Agrees P rs db → replay P rs db ≡ db
replay-still P rs db h l a =
    let len : (replay P rs db).len ≡ db.len = replay-len P rs db ∙ omega arith in
    file-ext (replay P rs db) db (replay-room P rs db) len (λ i. replay-byte P rs db h (omega arith) i ∙ a i)
    (λ i p. replay-past P rs db i (omega arith))
