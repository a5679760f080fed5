-- Databases at a cut: a page written in part, replay over it byte by byte, and page 0. P is the page size. Assumes nothing.
use mathlib.Core.Path.{◌≡◌, refl, sym, ◌∙◌, subst}
use mathlib.Core.List.{List}
use Prim.Native.Nat.{ℕ, suc, ◌+◌, ◌-◌, ◌*◌, ◌^◌, ◌≤◌, ◌<◌}
use native.Mathlib.Nat.{zero-mul}
use native.Mathlib.Omega.{arith}
use lib.ListN.{length, get_or}
use Rattle.fields.specs.Files.{File, content, room}
use Rattle.wal.specs.Records.{Record}
use Rattle.meta.specs.Page.{meta_page}
use Rattle.meta.proofs.Laws.{length-meta}
use Rattle.world.specs.World.{Files}
use Rattle.world.specs.Steps.{Page, with_db, apply}
use Rattle.opening.specs.Opening.{replay}
use Rattle.opening.proofs.Replays.{imaged_all, replay-len, replay-byte, replay-inside}
use Rattle.partway.specs.Partway.{laid_to, apply_to}
use Rattle.partway.proofs.Laws.{cut-whole}
use Rattle.partway.proofs.Sectors.{laid-len, laid-room, laid-fits, laid-before, laid_in, laid-after, Stop, none, some, page-stop, page-begun}
use Rattle.keyoff.proofs.Images.{AllRest, all_first, page-high, rest-reach}
use Rattle.keyoff.proofs.Page.{Stands, stands-whole, stands-new, stands-file}

-- a byte of what a file holds; past its end it is 0
abbrev pub byte_of : File → ℕ → ℕ
byte_of f i = get_or (content f) i 0

-- ---- a page's store to a position: the database's other bytes, the log and the clog are as they were

pub record PageTo (P p n : ℕ) (f g : Files) : Type 0 where
  pub log : g.log ≡ f.log
  pub clog : g.clog ≡ f.clog
  pub size : room g.db ≡ room f.db
  pub fits : g.db.len ≤ room g.db
  pub longer : f.db.len ≤ g.db.len
  pub before : (i : ℕ) → i < p * P → byte_of g.db i ≡ byte_of f.db i
  pub after : (i : ℕ) → p * P + n ≤ i → byte_of g.db i ≡ byte_of f.db i

module _ (P p : ℕ) (bytes : List ℕ) (f : Files) (fits : f.db.len ≤ room f.db) (has : p * P + length bytes ≤ room f.db) where
  abbrev To : Files → Type 0
  To g = PageTo P p (length bytes) f g

  pub page-to : (pos : ℕ) → PageTo P p (length bytes) f (apply_to P pos (Page p bytes) f)
  page-to pos = go (apply_to P pos (Page p bytes) f) (page-stop P p bytes f fits has pos)
    where
      part : (n : ℕ) → To (with_db (laid_to n f.db (p * P) bytes) f)
      part n = record {
        log = refl;
        clog = refl;
        size = laid-room f.db (p * P) bytes n;
        fits = laid-fits f.db (p * P) bytes fits has n;
        longer = omega (arith, laid-len f.db (p * P) bytes n);
        before = laid-before f.db (p * P) bytes fits has n;
        after = λ i h. laid-after f.db (p * P) bytes fits has n i (omega arith);
      }

      go : (g : Files) → Stop P p bytes f g → To g
      go g (none e) =
          subst To (sym e) (record { log = refl; clog = refl; size = refl; fits = fits; longer = omega arith; before = λ i h. refl; after = λ i h. refl })
      go g (some n e) = subst To (sym e) (part (512 * n))

  pub page-whole : PageTo P p (length bytes) f (apply P (Page p bytes) f)
  page-whole = cut-whole P To (Page p bytes) f page-to

-- ---- page 0

module _ (P : ℕ) (big : 36 ≤ P) where
  -- a page that is not page 0 leaves it
  pub page-stands : (p n mark : ℕ) (f g : Files) → 0 < p → f.db.len ≤ room f.db → PageTo P p n f g → Stands P (content f.db) mark → Stands P (content g.db) mark
  page-stands p n mark f g p0 fits t s =
      stands-file P big (content f.db) g.db mark t.fits (omega (arith, stands-whole P f.db mark fits s, t.longer))
      (λ i q. t.before i (omega (arith, page-high P p p0))) s

  -- meta written over it, from its first sector on
  pub meta-part : (f : Files) (next time mark : ℕ) → f.db.len ≤ room f.db → P ≤ f.db.len → mark < 2 ^ 64 → (n : ℕ) →
      Stands P (content (apply_to P (suc n) (Page 0 (meta_page P next time mark)) f).db) mark
  meta-part f next time mark fits whole small n =
      subst (λ (g : Files). Stands P (content g.db) mark) (sym b.1)
      (stands-file P big (meta_page P next time mark) (laid_to (512 * suc b.0) f.db (0 * P) (meta_page P next time mark)) mark
      (laid-fits f.db (0 * P) (meta_page P next time mark) fits has (512 * suc b.0)) (omega (arith, laid-len f.db (0 * P) (meta_page P next time mark) (512 * suc b.0)))
      (λ i q.
      let d : i - 0 * P ≡ i = omega (arith, zero-at) in
      laid_in f.db (0 * P) (meta_page P next time mark) fits has (512 * suc b.0) i (omega (arith, zero-at)) (omega arith) (omega (arith, zero-at, long)) ∙ rw d)
      (stands-new P big next time mark small))
    where
      long : length (meta_page P next time mark) ≡ P
      long = length-meta P big next time mark

      zero-at : 0 * P ≡ 0
      zero-at = zero-mul P

      has : 0 * P + length (meta_page P next time mark) ≤ room f.db
      has = omega (arith, zero-at, long)

      b : (m : ℕ) × (apply_to P (suc n) (Page 0 (meta_page P next time mark)) f ≡ with_db (laid_to (512 * suc m) f.db (0 * P) (meta_page P next time mark)) f)
      b = page-begun P 0 (meta_page P next time mark) f fits has (suc n) (omega (arith, zero-at, long)) (omega (arith, long)) (omega arith)

-- ---- replay of images at rest

pub replay-bytes : (P : ℕ) (rs : List Record) (f : File) → AllRest P (room f) rs → f.len ≤ room f → (i : ℕ) → byte_of (replay P rs f) i ≡ imaged_all P rs i (byte_of f i)
replay-bytes P rs f q h i = replay-byte P rs f h (rest-reach P (room f) rs q) i

-- no image is of page 0: it stands after replay
pub replay-stands : (P : ℕ) → 36 ≤ P → (rs : List Record) (f : File) (mark : ℕ) → AllRest P (room f) rs → f.len ≤ room f → Stands P (content f) mark →
    Stands P (content (replay P rs f)) mark
replay-stands P big rs f mark q h s =
    let l : P ≤ f.len = stands-whole P f mark h s in
    stands-file P big (content f) (replay P rs f) mark (replay-inside P rs f h (rest-reach P (room f) rs q)) (omega (arith, replay-len P rs f))
    (λ i k. replay-bytes P rs f q h i ∙ all_first P (room f) rs i (byte_of f i) q (omega arith)) s
