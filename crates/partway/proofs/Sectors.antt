-- A page written in part: lengthened to its end, and the first n of its bytes laid. Its sizes, what stands before, in and after these bytes, and that a page's
-- store stops before it or after some of its bytes. P is the page size. Assumes nothing.
use mathlib.Core.Path.{◌≡◌, refl, sym, ap, ◌∙◌}
use mathlib.Core.List.{List}
use Prim.Native.Nat.{ℕ, suc, ◌+◌, ◌-◌, ◌*◌, ◌/◌, ◌≤◌, ◌<◌, min, max}
use native.Mathlib.Omega.{arith}
use lib.ListN.{length, take, get_or, length-take}
use lib.Seq.{get_or-take}
use borrow.Author.Tests.{le-ltb}
use Rattle.fields.specs.Files.{File, content, room, lay}
use Rattle.fields.proofs.Tests.{Order, less, most, order}
use Rattle.fields.proofs.FileLaws.{file-ext, lay-room, lay-len, lay-past, lay-in, lay-before, lay-after}
use Rattle.world.specs.World.{Files}
use Rattle.world.specs.Steps.{Page, with_db, apply}
use Rattle.partway.specs.Partway.{growth, grown, laid_to, stopped, apply_to}
use Rattle.partway.proofs.Laws.{Position, before, inside, past, position}
use Rattle.partway.proofs.Lengths.{grown-room, grown-len, grown-past, grown-fits, grown-byte}

module _ (f : File) (at : ℕ) (ys : List ℕ) where
  pub laid-len : (n : ℕ) → (laid_to n f at ys).len ≡ max f.len (at + length ys)
  unfolding laid_to
  laid-len n = lay-len (grown f (at + length ys)) at (take n ys) ∙ rw (grown-len f (at + length ys), length-take) (omega arith)

  pub laid-room : (n : ℕ) → room (laid_to n f at ys) ≡ room f
  unfolding laid_to
  laid-room n = lay-room (grown f (at + length ys)) at (take n ys) ∙ grown-room f (at + length ys)

  pub laid-past : (n i : ℕ) → max f.len (at + length ys) ≤ i → get_or (laid_to n f at ys).bytes i 0 ≡ get_or f.bytes i 0
  unfolding laid_to
  laid-past n i h =
      let l : max (grown f (at + length ys)).len (at + length (take n ys)) ≤ i = rw (grown-len f (at + length ys), length-take) (omega arith) in
      lay-past (grown f (at + length ys)) at (take n ys) i l ∙ grown-past f (at + length ys) i h

  module _ (fits : f.len ≤ room f) (has : at + length ys ≤ room f) where
    pub laid-fits : (n : ℕ) → (laid_to n f at ys).len ≤ room (laid_to n f at ys)
    laid-fits n = rw (laid-len n, laid-room n) (omega arith)

    room_for : (n : ℕ) → at + length (take n ys) ≤ room (grown f (at + length ys))
    room_for n = rw (grown-room f (at + length ys), length-take) (omega arith)

    -- what stands before the place, in what is laid, and after it
    pub laid-before : (n i : ℕ) → i < at → get_or (content (laid_to n f at ys)) i 0 ≡ get_or (content f) i 0
    unfolding laid_to
    laid-before n i h =
        lay-before (grown f (at + length ys)) at (take n ys) (grown-fits f (at + length ys) fits has) (room_for n) i h ∙ grown-byte f (at + length ys) fits has i

    pub laid_in : (n i : ℕ) → at ≤ i → i < at + n → i < at + length ys → get_or (content (laid_to n f at ys)) i 0 ≡ get_or ys (i - at) 0
    unfolding laid_to
    laid_in n i h l m =
        lay-in (grown f (at + length ys)) at (take n ys) (grown-fits f (at + length ys) fits has) (room_for n) i h (rw length-take (omega arith))
        ∙ get_or-take n ys (i - at) 0 (omega arith)

    pub laid-after : (n i : ℕ) → at + min n (length ys) ≤ i → get_or (content (laid_to n f at ys)) i 0 ≡ get_or (content f) i 0
    unfolding laid_to
    laid-after n i h =
        lay-after (grown f (at + length ys)) at (take n ys) (grown-fits f (at + length ys) fits has) (room_for n) i (rw length-take h)
        ∙ grown-byte f (at + length ys) fits has i

    -- all of it is the whole store
    pub laid-whole : (n : ℕ) → length ys ≤ n → laid_to n f at ys ≡ lay f at ys
    laid-whole n l =
        file-ext (laid_to n f at ys) (lay f at ys) (laid-room n ∙ sym (lay-room f at ys)) (laid-len n ∙ sym (lay-len f at ys))
        (λ i. go i (order i at) (order i (at + length ys)))
        (λ i p. let q : max f.len (at + length ys) ≤ i = omega (arith, lay-len f at ys) in laid-past n i q ∙ sym (lay-past f at ys i q))
      where
        go : (i : ℕ) → Order i at → Order i (at + length ys) → get_or (content (laid_to n f at ys)) i 0 ≡ get_or (content (lay f at ys)) i 0
        go i (less p) q = laid-before n i p ∙ sym (lay-before f at ys fits has i p)
        go i (most p) (less q) = laid_in n i p (omega arith) q ∙ sym (lay-in f at ys fits has i p q)
        go i (most p) (most q) = laid-after n i (omega arith) ∙ sym (lay-after f at ys fits has i q)

-- ---- a page's store

-- before it, or some of its bytes: so many sectors, the whole of it among them
pub data Stop (P p : ℕ) (bs : List ℕ) (f g : Files) : Type 0 where
  none : g ≡ f → Stop P p bs f g
  some : (n : ℕ) → g ≡ with_db (laid_to (512 * n) f.db (p * P) bs) f → Stop P p bs f g

module _ (P p : ℕ) (bs : List ℕ) (f : Files) (fits : f.db.len ≤ room f.db) (has : p * P + length bs ≤ room f.db) where
  page-whole : apply P (Page p bs) f ≡ with_db (laid_to (512 * ((length bs + 511) / 512)) f.db (p * P) bs) f
  unfolding apply
  page-whole = ap (λ (g : File). with_db g f) (sym (laid-whole f.db (p * P) bs fits has (512 * ((length bs + 511) / 512)) (omega arith)))

  pub page-stop : (pos : ℕ) → Stop P p bs f (apply_to P pos (Page p bs) f)
  page-stop pos = go (position P pos (Page p bs) f)
    where
      go : Position P pos (Page p bs) f → Stop P p bs f (apply_to P pos (Page p bs) f)
      go (before z e) = none e
      go (inside n h e) = some (suc n - growth f.db (p * P + length bs)) (e ∙ (unfold stopped in refl))
      go (past e) = some ((length bs + 511) / 512) (e ∙ page-whole)

  -- where the file is not lengthened, each position past 0 has a sector
  pub page-begun : (pos : ℕ) → p * P + length bs ≤ f.db.len → 0 < length bs → 0 < pos →
      (n : ℕ) × (apply_to P pos (Page p bs) f ≡ with_db (laid_to (512 * suc n) f.db (p * P) bs) f)
  page-begun pos long more l = go (position P pos (Page p bs) f)
    where
      kept : (n : ℕ) → suc n - growth f.db (p * P + length bs) ≡ suc n
      kept n = rw (le-ltb f.db.len (p * P + length bs) long) (omega arith)

      go : Position P pos (Page p bs) f → (n : ℕ) × (apply_to P pos (Page p bs) f ≡ with_db (laid_to (512 * suc n) f.db (p * P) bs) f)
      go (before z e) = absurd (omega arith)
      go (inside n h e) = (n, e ∙ (unfold stopped in ap (λ (m : ℕ). with_db (laid_to (512 * m) f.db (p * P) bs) f) (kept n)))
      go (past e) =
          let m : (length bs + 511) / 512 ≡ suc ((length bs + 511) / 512 - 1) = omega arith in
          ((length bs + 511) / 512 - 1, e ∙ page-whole ∙ ap (λ (k : ℕ). with_db (laid_to (512 * k) f.db (p * P) bs) f) m)
