-- A log's images by their pages: which pages have one, and which bytes lie under them; the images of pages as frames hold them, and that pages written are a replay
-- of these. P is the page size. Assumes nothing.
use mathlib.Core.Path.{◌≡◌, refl, sym, ap, ◌∙◌}
use mathlib.Core.List.{List, [], ◌∷◌, ◌++◌, append_assoc}
use mathlib.Core.Bool.{Bool, true, false, ◌||◌}
use Prim.Native.Nat.{ℕ, suc, ◌+◌, ◌-◌, ◌*◌, ◌≤◌, ◌<◌, max}
use native.Mathlib.Nat.{suc-mul, mul-le-mul_right}
use native.Mathlib.Omega.{arith}
use lib.Dec.{eqb}
use lib.ListN.{get_or}
use borrow.Author.Tests.{eq-eqb, eqb-true}
use Rattle.fields.specs.Files.{lay}
use Rattle.fields.proofs.Tests.{Order, less, most, order, neither}
use Rattle.fields.proofs.Lists.{or-true}
use Rattle.wal.specs.Records.{Record, image, begin, commit, abort, checkpoint}
use Rattle.wal.proofs.Sizes.{Sized, AllSized}
use Rattle.std.specs.Prelude.{None}
use Rattle.table.proofs.Facts.{no-status}
use Rattle.frames.specs.Pages.{is_in}
use Rattle.world.specs.World.{Files, World}
use Rattle.world.specs.Steps.{with_db, apply, apply_all}
use Rattle.world.specs.Calls.{held_page, writes}
use Rattle.world.proofs.RoomLaws.{held_page-length}
use Rattle.opening.specs.Opening.{replay, statuses}
use Rattle.opening.proofs.Replays.{in_image, covered, imaged, imaged_all, in_image_lem, before-image, after-image, imaged-in, uncovered, overlaid, image_end, reach}
use Rattle.opening.proofs.Tables.{last_word}

-- ---- pages with an image

abbrev pub is_image : ℕ → Record → Bool
is_image p (image q bs) = eqb q p
is_image p (begin id) = false
is_image p (commit id t) = false
is_image p (abort id) = false
is_image p checkpoint = false

unfoldable pub has_image : ℕ → List Record → Bool
has_image p [] = false
has_image p (r ∷ rs) = is_image p r || has_image p rs

-- pages lie apart
pub pages-apart : (P p q : ℕ) → p < q → p * P + P ≤ q * P
pages-apart P p q h =
    let m : suc p * P ≤ q * P = mul-le-mul_right P h in
    omega (arith, suc-mul p P)

-- a byte of a page with an image lies in one; a byte of a page without lies in none
module _ (P p i : ℕ) (low : p * P ≤ i) (high : i < p * P + P) where
  one_in : (r : Record) → Sized P r → is_image p r ≡ true → in_image P r i ≡ true
  one_in (image q bs) s h = let e : q ≡ p = eqb-true q p h in in_image_lem P q bs i (rw e low) (rw (e, s) high)
  one_in (begin id) s h = let z : false ≡ true = h in cc
  one_in (commit id t) s h = let z : false ≡ true = h in cc
  one_in (abort id) s h = let z : false ≡ true = h in cc
  one_in checkpoint s h = let z : false ≡ true = h in cc

  none_in : (r : Record) → Sized P r → is_image p r ≡ false → in_image P r i ≡ false
  none_in (image q bs) s h = go (order q p) (order p q)
    where
      go : Order q p → Order p q → in_image P (image q bs) i ≡ false
      go (less a) b = after-image P q bs i (omega (arith, pages-apart P q p a, s))
      go (most a) (less b) = before-image P q bs i (omega (arith, pages-apart P p q b))
      go (most a) (most b) = let z : true ≡ false = sym (eq-eqb q p (omega arith)) ∙ h in cc
  none_in (begin id) s h = refl
  none_in (commit id t) s h = refl
  none_in (abort id) s h = refl
  none_in checkpoint s h = refl

  pub has-covered : (rs : List Record) → AllSized P rs → has_image p rs ≡ true → covered P rs i ≡ true
  unfolding has_image covered
  has-covered [] a h = h
  has-covered (r ∷ rs) a h = go (is_image p r) refl (has-covered rs a.1)
    where
      go : (x : Bool) → is_image p r ≡ x → (has_image p rs ≡ true → covered P rs i ≡ true) → (in_image P r i || covered P rs i) ≡ true
      go true e ih = rw (one_in r a.0 e)
      go false e ih = let c : covered P rs i ≡ true = ih (rw e at h) in rw c (or-true (in_image P r i))

  pub has-not : (rs : List Record) → AllSized P rs → has_image p rs ≡ false → covered P rs i ≡ false
  unfolding has_image covered
  has-not [] a h = refl
  has-not (r ∷ rs) a h =
      let n = neither (is_image p r) (has_image p rs) h in
      rw (none_in r a.0 n.0) (has-not rs a.1 n.1)

end-reach : (P p : ℕ) (r : Record) → Sized P r → is_image p r ≡ true → p * P + P ≤ image_end P r
end-reach P p (image q bs) s h = let e : q ≡ p = eqb-true q p h in rw (e, s) (omega arith)
end-reach P p (begin id) s h = let z : ◌≡◌ {A = ℕ} 0 1 = cc in absurd (omega arith)
end-reach P p (commit id t) s h = let z : ◌≡◌ {A = ℕ} 0 1 = cc in absurd (omega arith)
end-reach P p (abort id) s h = let z : ◌≡◌ {A = ℕ} 0 1 = cc in absurd (omega arith)
end-reach P p checkpoint s h = let z : ◌≡◌ {A = ℕ} 0 1 = cc in absurd (omega arith)

pub has-reach : (P p : ℕ) (rs : List Record) → AllSized P rs → has_image p rs ≡ true → p * P + P ≤ reach P rs
unfolding has_image reach
has-reach P p [] a h = let z : ◌≡◌ {A = ℕ} 0 1 = cc in absurd (omega arith)
has-reach P p (r ∷ rs) a h = go (is_image p r) refl (has-reach P p rs a.1)
  where
    go : (x : Bool) → is_image p r ≡ x → (has_image p rs ≡ true → p * P + P ≤ reach P rs) → p * P + P ≤ max (image_end P r) (reach P rs)
    go true e ih = omega (arith, end-reach P p r a.0 e)
    go false e ih = omega (arith, ih (rw e at h))

-- ---- the images of pages, each with the bytes of its frame

unfoldable pub images_of : ℕ → World → List ℕ → List Record
images_of P w [] = []
images_of P w (p ∷ ps) = image p (held_page P w p) ∷ images_of P w ps

module _ (P : ℕ) (w : World) where
  images-append : (qs ps : List ℕ) → images_of P w (qs ++ ps) ≡ images_of P w qs ++ images_of P w ps
  unfolding images_of
  images-append [] ps = refl
  images-append (q ∷ qs) ps = ap (λ (l : List Record). image q (held_page P w q) ∷ l) (images-append qs ps)

  -- one more image after others
  pub image-next : (base : List Record) (qs : List ℕ) (p : ℕ) →
      (base ++ images_of P w qs) ++ (image p (held_page P w p) ∷ []) ≡ base ++ images_of P w (qs ++ (p ∷ []))
  unfolding images_of
  image-next base qs p = append_assoc base (images_of P w qs) (image p (held_page P w p) ∷ []) ∙ ap (λ (l : List Record). base ++ l) (sym (images-append qs (p ∷ [])))

  pub images-sized : (ps : List ℕ) → AllSized P (images_of P w ps)
  unfolding images_of
  images-sized [] = tt
  images-sized (p ∷ ps) = (held_page-length P w p, images-sized ps)

  pub images-has : (p : ℕ) (ps : List ℕ) → has_image p (images_of P w ps) ≡ is_in p ps
  unfolding images_of has_image is_in
  images-has p [] = refl
  images-has p (q ∷ ps) = ap (λ (x : Bool). eqb q p || x) (images-has p ps)

  -- they say nothing of an id
  pub images-words : (t : ℕ) (ps : List ℕ) → last_word t (images_of P w ps) ≡ None
  unfolding images_of last_word
  images-words t [] = refl
  images-words t (p ∷ ps) = rw (images-words t ps) (no-status t)

  pub images-statuses : (ps : List ℕ) → statuses (images_of P w ps) ≡ []
  unfolding images_of statuses
  images-statuses [] = refl
  images-statuses (p ∷ ps) = images-statuses ps

  -- a byte of a page that is not among them stays
  pub images-out : (ps : List ℕ) (p i b : ℕ) → is_in p ps ≡ false → i < P → imaged_all P (images_of P w ps) (p * P + i) b ≡ b
  images-out ps p i b h l =
      uncovered P (images_of P w ps) (p * P + i) b (has-not P p (p * P + i) (omega arith) (omega arith) (images_of P w ps) (images-sized ps) (images-has p ps ∙ h))

  -- a byte of one that is, is the frame's: whatever stood there, and so also where it was that already
  image-own : (q p i : ℕ) → i < P → imaged P (image q (held_page P w q)) (p * P + i) (get_or (held_page P w p) i 0) ≡ get_or (held_page P w p) i 0
  image-own q p i l = go (eqb q p) refl
    where
      go : (x : Bool) → eqb q p ≡ x → imaged P (image q (held_page P w q)) (p * P + i) (get_or (held_page P w p) i 0) ≡ get_or (held_page P w p) i 0
      go true e =
          let f : q ≡ p = eqb-true q p e in
          let d : p * P + i - q * P ≡ i = rw f (omega arith) in
          imaged-in P q (held_page P w q) (p * P + i) (get_or (held_page P w p) i 0) (rw f (omega arith)) (rw (held_page-length P w q, f) (omega arith)) ∙ rw (d, f)
      go false e = rw (none_in P p (p * P + i) (omega arith) (omega arith) (image q (held_page P w q)) (held_page-length P w q) e)

  images-keep : (ps : List ℕ) (p i : ℕ) → i < P → imaged_all P (images_of P w ps) (p * P + i) (get_or (held_page P w p) i 0) ≡ get_or (held_page P w p) i 0
  unfolding images_of imaged_all
  images-keep [] p i l = refl
  images-keep (q ∷ ps) p i l = ap (imaged_all P (images_of P w ps) (p * P + i)) (image-own q p i l) ∙ images-keep ps p i l

  pub images-in : (ps : List ℕ) (p i b : ℕ) → is_in p ps ≡ true → i < P → imaged_all P (images_of P w ps) (p * P + i) b ≡ get_or (held_page P w p) i 0
  images-in ps p i b h l =
      let c : covered P (images_of P w ps) (p * P + i) ≡ true =
      has-covered P p (p * P + i) (omega arith) (omega arith) (images_of P w ps) (images-sized ps) (images-has p ps ∙ h) in
      overlaid P (images_of P w ps) (p * P + i) b (get_or (held_page P w p) i 0) c ∙ images-keep ps p i l

  -- page writes are a replay
  pub writes-replay : (ps : List ℕ) (f : Files) → apply_all P (writes P w ps) f ≡ with_db (replay P (images_of P w ps) f.db) f
  unfolding writes apply_all images_of replay apply
  writes-replay [] f = refl
  writes-replay (p ∷ ps) f = writes-replay ps (with_db (lay f.db (p * P) (held_page P w p)) f)
