-- Cuts and replays, computed: pages of 4 bytes, a database of a page and a tail of two bytes in a buffer of 20; and a page 0 of 40 bytes that is not whole.
-- Assumes nothing.
use mathlib.Core.Path.{◌≡◌, refl}
use mathlib.Core.List.{List, [], ◌∷◌, ◌++◌}
use mathlib.Core.Bool.{true, false}
use Prim.Native.Nat.{ℕ}
use lib.ListN.{take, replicate}
use Rattle.fields.specs.Bytes.{bytes_of, starts}
use Rattle.fields.specs.Files.{File, file_of, content, lay}
use Rattle.wal.specs.Records.{Record, image, begin}
use Rattle.meta.specs.Page.{meta_magic, meta_page, has_meta}
use Rattle.opening.specs.Opening.{replay}
use Rattle.opening.proofs.Replays.{reach}
use Rattle.partway.specs.Partway.{laid_to}

abbrev four : ℕ → List ℕ
four n = n ∷ n ∷ n ∷ n ∷ []

db : File
db = file_of (1 ∷ 2 ∷ 3 ∷ 4 ∷ 5 ∷ 6 ∷ replicate 14 9) 6

-- images of page 1 and page 3, and page 1 again
log : List Record
log = image 1 (four 11) ∷ begin 5 ∷ image 3 (four 31) ∷ image 1 (four 12) ∷ []

-- the gap, page 2, is zeros; past the last page the buffer stays
whole : replay 4 log db ≡ file_of (1 ∷ 2 ∷ 3 ∷ 4 ∷ four 12 ++ (four 0 ++ (four 31 ++ four 9))) 16
unfolding replay lay log db
whole = refl

ends : reach 4 log ≡ 16
unfolding reach log
ends = refl

-- broken off after two bytes of page 3, and run again
again : replay 4 log (laid_to 2 (replay 4 (image 1 (four 11) ∷ []) db) 12 (four 31)) ≡ replay 4 log db
unfolding replay lay laid_to log db
again = refl

-- a byte of page 2, which has no image, is not absorbed
not-absorbed : content (replay 4 log (lay db 8 (7 ∷ []))) ≡ 1 ∷ 2 ∷ 3 ∷ 4 ∷ four 12 ++ (7 ∷ 0 ∷ 0 ∷ 0 ∷ four 31)
unfolding replay lay log db
not-absorbed = refl

-- nor is a length past the furthest image
too_long : replay 4 log (lay db 17 []) ≡ file_of (1 ∷ 2 ∷ 3 ∷ 4 ∷ four 12 ++ (four 0 ++ (four 31 ++ (0 ∷ 9 ∷ 9 ∷ 9 ∷ [])))) 17
unfolding replay lay log db
too_long = refl

-- a database of the first 36 bytes of a meta page has none; lengthened to page 0's end it has one: what is said of page 0 asks that the database is empty or has it
-- whole
short : File
short = file_of (take 36 (meta_page 40 6 2 0) ++ replicate 44 9) 36

short_none : has_meta 40 (content short) ≡ false
unfolding has_meta starts meta_magic meta_page bytes_of short
short_none = refl

short-grown : has_meta 40 (content (laid_to 0 short 0 (replicate 40 7))) ≡ true
unfolding has_meta starts meta_magic meta_page bytes_of short laid_to lay
short-grown = refl
