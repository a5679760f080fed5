-- Laws of a store's arrays: the first count of an array, the tests of table, touched pages and frames said of it, and lists laid where they stood. Assumes nothing.
use Prim.Native.Nat.{ℕ, zero, suc, ◌-◌, ◌≤◌}
use native.Mathlib.Omega.{arith}
use mathlib.Core.Path.{◌≡◌, refl, ◌∙◌}
use mathlib.Core.List.{List, [], ◌∷◌, append-nil}
use mathlib.Core.Bool.{Bool, true, false, not, ◌&&◌, ◌||◌}
use lib.ListN.{length, take, drop, get_or, length-append, length-take, length-replicate}
use lib.Seq.{take_at}
use lib.Dec.{ltb, leb}
use borrow.Author.Tests.{lt-ltb, le-ltb, le-leb, lt-leb}
use Rattle.fields.proofs.Tests.{Order, less, most, order, or-false}
use Rattle.sorted.specs.Sorted.{laid_on}
use Rattle.sorted.proofs.Laws.{laid-own}
use Rattle.table.specs.declared.Table.{Table}
use Rattle.table.specs.Entries.{blank, list_of, ascending, well_formed}
use Rattle.frames.specs.declared.Frames.{Frames}
use Rattle.frames.specs.declared.Touched.{Touched}
use Rattle.frames.specs.Pages as pages
use Rattle.frames.specs.Pages.{distinct, any_bad, frame_count, frames_formed, touched_formed}
use Rattle.frames.proofs.Values.{touched-over, touched-fit}
use Rattle.world.specs.Refusals.{any_of, bad_table, bad_touched, bad_frames}
use Rattle.form.specs.declared.Store.{Store}
use Rattle.form.specs.Store.{first_of, entries_of, resident_of, touched_of}

-- ---- tests

not-both : (a b : Bool) → not (a && not b) ≡ (not a || b)
not-both true true = refl
not-both true false = refl
not-both false b = refl

-- where none holds, each fails
pub none_of : (bs : List Bool) (i : ℕ) → any_of bs ≡ false → get_or bs i false ≡ false
unfolding any_of
none_of [] i h = refl
none_of (true ∷ bs) i h = let z : ◌≡◌ {A = ℕ} 0 1 = cc in absurd (omega arith)
none_of (false ∷ bs) zero h = refl
none_of (false ∷ bs) (suc i) h = none_of bs i h

-- ---- the first n of an array

module _ {A : Type 0} (d : A) (n : ℕ) (xs : List A) where
  pub length-first : length (first_of d n xs) ≡ n
  unfolding first_of
  length-first = simp (length-append, length-take, length-replicate) (omega arith)

  pub first_fits : n ≤ length xs → first_of d n xs ≡ take n xs
  unfolding first_of
  first_fits h = let e : n - length xs ≡ 0 = omega arith in rw (e, append-nil)

  -- laid over the array that it was read from, it changes nothing
  pub first-same : n ≤ length xs → laid_on xs (first_of d n xs) ≡ xs
  first-same h = rw (first_fits h) (laid-own xs n h)

-- a list laid over an array, read back
pub first-laid : {A : Type 0} (d : A) (es l : List A) → first_of d (length l) (laid_on es l) ≡ l
first-laid d es l =
    first_fits d (length l) (laid_on es l) (simp length-append (omega arith)) ∙ take_at l (drop (length l) es) (length l) refl

-- ---- the arrays of a store have their sizes

pub record Sized (s : Store) : Type 0 where
  pub entries : length s.table.entries ≡ 256
  pub pages : length s.frames.pages ≡ 64
  pub touched : length s.held.touched.pages ≡ 64

-- ---- the tests of the table, the touched pages and the frames, which look at the array's first count, are those of 14

pub table-bad : (t : Table) → length t.entries ≡ 256 → not (well_formed 256 t) ≡ bad_table (entries_of t)
unfolding well_formed bad_table any_of
table-bad t len = go (order 256 t.count)
  where
    go : Order 256 t.count → not (leb t.count 256 && ascending (list_of t)) ≡ (ltb 256 (length (entries_of t)) || (not (ascending (entries_of t)) || false))
    go (less h) = rw (length-first blank t.count t.entries, lt-ltb 256 t.count h, lt-leb t.count 256 h)
    go (most h) =
        rw (length-first blank t.count t.entries, le-ltb 256 t.count h, le-leb t.count 256 h, first_fits blank t.count t.entries (omega arith), or-false)

pub touched-bad : (t : Touched) → length t.pages ≡ 64 → not (touched_formed 64 t) ≡ bad_touched (touched_of t)
unfolding bad_touched any_of
touched-bad t len = go (order 64 t.count)
  where
    go : Order 64 t.count →
        not (touched_formed 64 t) ≡ (ltb 64 (length (touched_of t)) || (not (pages.ascending (touched_of t)) || (any_bad (touched_of t) || false)))
    go (less h) = rw (touched-over 64 t h, length-first 0 t.count t.pages, lt-ltb 64 t.count h)
    go (most h) =
        rw (touched-fit 64 t h, length-first 0 t.count t.pages, le-ltb 64 t.count h, first_fits 0 t.count t.pages (omega arith), or-false)
        (not-both (pages.ascending (pages.touched_of t)) (any_bad (pages.touched_of t)))

pub count_most : (P size : ℕ) → frame_count 64 P size ≤ 64
unfolding frame_count
count_most P size = omega arith

pub frames-bad : (P : ℕ) (f : Frames) (size : ℕ) → length f.pages ≡ 64 → not (frames_formed 64 P f size) ≡ bad_frames (frame_count 64 P size) (resident_of f)
unfolding bad_frames any_of frames_formed
frames-bad P f size len = go (order (frame_count 64 P size) f.count)
  where
    go : Order (frame_count 64 P size) f.count →
        not (frames_formed 64 P f size) ≡
        (ltb (frame_count 64 P size) (length (resident_of f)) || (not (distinct (resident_of f)) || (any_bad (resident_of f) || false)))
    go (less h) = rw (lt-leb f.count (frame_count 64 P size) h, length-first 0 f.count f.pages, lt-ltb (frame_count 64 P size) f.count h)
    go (most h) =
        rw (
          le-leb f.count (frame_count 64 P size) h,
          length-first 0 f.count f.pages,
          le-ltb (frame_count 64 P size) f.count h,
          first_fits 0 f.count f.pages (omega (arith, count_most P size)),
          or-false,
        )
        (not-both (distinct (pages.resident_of f)) (any_bad (pages.resident_of f)))
