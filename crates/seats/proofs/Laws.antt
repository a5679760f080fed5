-- Each way out of `seat` and of `mark`, over an array of 64 of which min n 64 = m are held. Assumes nothing.
use mathlib.Core.Path.{◌≡◌, sym, ap, ◌∙◌}
use mathlib.Core.List.{List, ◌∷◌, ◌++◌}
use mathlib.Core.Bool.{Bool, true, false}
use Prim.Native.Nat.{ℕ, ◌+◌, ◌-◌, ◌≤◌, ◌<◌, min}
use native.Mathlib.Omega.{arith}
use native.Mathlib.Numerals.{add-one}
use lib.ListN.{length, take, drop, get_or, set, length-drop}
use lib.Seq.{sets, drop-cons}
use Rattle.fields.proofs.Stored.{sets-none}
use Rattle.sorted.proofs.Laws.{length-min}
use Rattle.frames.specs.Pages.{is_in, resident_of, frame_count, seated, marked}
use Rattle.frames.specs.Inside.{below_in}
use Rattle.frames.proofs.Values.{held-list, seat-old, seat-full, seat-new, seat-laid, mark-hit, mark-over, mark-new}
use Rattle.seats.specs.Seats.{frames_in, touched_in, seated_in, marked_in}

module _ (pages : List ℕ) (n m size page : ℕ) (len : length pages ≡ 64) (held : m ≡ min n 64) (b : Bool) (is : b ≡ is_in page (take m pages)) where
  there : is_in page (resident_of (frames_in pages n)) ≡ b
  there = ap (is_in page) (held-list pages n 64 m len held) ∙ sym is

  size_is : length (resident_of (frames_in pages n)) ≡ m
  size_is = length-min pages n 64 len ∙ sym held

  pub seat-there : b ≡ true → seated_in 0 pages n ≡ seated 64 4096 (frames_in pages n) size page
  seat-there h = sym (seat-old 64 4096 (frames_in pages n) size page (there ∙ h))

  module _ (most : ℕ) (many : most ≡ frame_count 64 4096 size) (h : b ≡ false) where
    pub seat-none : most ≤ m → seated_in 8 pages n ≡ seated 64 4096 (frames_in pages n) size page
    seat-none k = sym (seat-full 64 4096 (frames_in pages n) size page (there ∙ h) (omega (arith, many, size_is)))

    pub seat-room : m < most → m < 64
    unfolding frame_count
    seat-room k = omega arith

    pub seat-next : m < most → seated_in 0 (set pages m page) (m + 1) ≡ seated 64 4096 (frames_in pages n) size page
    seat-next k =
        rw (seat-laid (frames_in pages n) 64 m page len held (seat-room k))
        (sym (seat-new 64 4096 (frames_in pages n) size page (there ∙ h) (omega (arith, many, size_is))))

module _ (pages : List ℕ) (n m page p : ℕ) (len : length pages ≡ 64) (held : m ≡ min n 64) (place : p ≡ below_in page (take m pages)) where
  at : p ≡ below_in page (take n pages)
  at = rw (held-list pages n 64 m len held) place

  pub mark-there : p < m → get_or pages p 0 ≡ page → marked_in 0 pages m ≡ marked 64 (touched_in pages n) page
  mark-there h q = mark-hit 64 (touched_in pages n) page m p len held at h q

  module _ (fresh : p < m → get_or pages p 0 ≡ page → ⊥) where
    pub mark-none : 64 ≤ m → marked_in 11 pages n ≡ marked 64 (touched_in pages n) page
    mark-none h = mark-over 64 (touched_in pages n) page m p len held at fresh h

    pub mark-next : (b : List ℕ) → m < 64 → b ≡ take p pages ++ page ∷ take (m - p) (drop p pages) ++ drop (m + 1) pages →
        marked_in 0 b (m + 1) ≡ marked 64 (touched_in pages n) page
    mark-next b h q = mark-new 64 (touched_in pages n) page m p len held at fresh b h q

-- ---- a list laid over the front of the array, page by page

pub copy-turn : (b src : List ℕ) (i : ℕ) → i < length src → sets b i (drop i src) ≡ sets (set b i (get_or src i 0)) (i + 1) (drop (i + 1) src)
copy-turn b src i h = rw (drop-cons src i 0 h, add-one)

pub copy-end : (b src : List ℕ) (i : ℕ) → min (length src) (length b) ≤ i → sets b i (drop i src) ≡ b
copy-end b src i h = sets-none (drop i src) b i (rw length-drop (omega arith))
