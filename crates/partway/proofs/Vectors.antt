-- Cuts computed: how many points each store has; a compaction and a lengthened clog at document 01's header, a page at pages of 4 bytes in a database with a tail, and
-- the log cut back. Assumes nothing.
use mathlib.Core.Path.{◌≡◌, refl}
use mathlib.Core.List.{List, [], ◌∷◌, ◌++◌}
use Prim.Native.Nat.{ℕ}
use lib.ListN.{replicate}
use Rattle.fields.specs.Bytes.{bytes_of}
use Rattle.fields.specs.Files.{File, file_of, content, lay, header}
use Rattle.wal.specs.Records.{begin, encode, log_magic}
use Rattle.table.specs.declared.Status.TheVariants.{Aborted}
use Rattle.clog.specs.Slots.{clog_magic, high_bits, cleared, span_below}
use Rattle.world.specs.World.{Files}
use Rattle.world.specs.Steps.{Log, Page, SetSlot, Compact, Truncate, Reset, apply}
use Rattle.partway.specs.Partway.{grown, laid_to, cleared_to, points, stopped, apply_to, cut_all}

-- eight ids Aborted, compacted under 6: after one byte, and after both; ids 6 and 7 stay
abbrev full : File
full = file_of (clog_magic ++ (0xFF ∷ 0xFF ∷ [])) 10

one_byte : content (cleared_to 1 8 6 full) ≡ clog_magic ++ (0x00 ∷ 0xFF ∷ [])
unfolding cleared_to cleared high_bits clog_magic
one_byte = refl

both_bytes : content (cleared_to 2 8 6 full) ≡ clog_magic ++ (0x00 ∷ 0xF0 ∷ [])
unfolding cleared_to cleared high_bits clog_magic
both_bytes = refl

-- a clog lengthened for id 9, whose byte is not written yet; the buffer had other bytes there
lengthened : content (grown (file_of (clog_magic ++ replicate 8 0xEE) 8) 11) ≡ clog_magic ++ (0 ∷ 0 ∷ 0 ∷ [])
unfolding lay clog_magic
lengthened = refl

-- a database of a page and a tail of two bytes in a buffer of 20, and page 3 cut after two of its bytes: lengthened to its end, with zeros; past it the buffer stays
abbrev four : ℕ → List ℕ
four n = n ∷ n ∷ n ∷ n ∷ []

page-part : laid_to 2 (file_of (1 ∷ 2 ∷ 3 ∷ 4 ∷ 5 ∷ 6 ∷ replicate 14 9) 6) 12 (four 31)
    ≡ file_of (1 ∷ 2 ∷ 3 ∷ 4 ∷ 5 ∷ 6 ∷ 0 ∷ 0 ∷ four 0 ++ (31 ∷ 31 ∷ 0 ∷ 0 ∷ four 9)) 16
unfolding lay laid_to
page-part = refl

-- ---- the points of each store

-- a log of 8, a database of a page at pages of 600 bytes, a clog with two bytes after its header; the buffers go on with EE
abbrev three : Files
three = record {
  log = file_of (log_magic ++ replicate 20 0xEE) 8;
  db = file_of (replicate 600 1 ++ replicate 600 0xEE) 600;
  clog = file_of (clog_magic ++ (0xFF ∷ 0xFF ∷ 0xEE ∷ 0xEE ∷ [])) 10;
}

abbrev nines : List ℕ
nines = replicate 600 9

-- a begin; a page in the file, and one past its end; a slot in the file, and one past its end; slots under 6, under 40, under 0; log and clog cut back
counted : points 600 (Log (begin 5)) three
    ∷ points 600 (Page 0 nines) three ∷ points 600 (Page 1 nines) three
    ∷ points 600 (SetSlot 7 Aborted) three ∷ points 600 (SetSlot 8 Aborted) three
    ∷ points 600 (Compact 6) three ∷ points 600 (Compact 40) three ∷ points 600 (Compact 0) three
    ∷ points 600 Truncate three ∷ points 600 Reset three ∷ []
    ≡ 9 ∷ 2 ∷ 3 ∷ 0 ∷ 1 ∷ 2 ∷ 2 ∷ 0 ∷ 9 ∷ 9 ∷ []
unfolding points encode bytes_of span_below
counted = refl

-- a page of document 01's size has 8 points, and 9 where the file ends before it
at-4096 : points 4096 (Page 1 (replicate 4096 0)) (record { log = file_of [] 0; db = file_of [] 8192; clog = file_of [] 0 })
    ∷ points 4096 (Page 1 (replicate 4096 0)) (record { log = file_of [] 0; db = file_of [] 8191; clog = file_of [] 0 }) ∷ []
    ≡ 8 ∷ 9 ∷ []
unfolding points
at-4096 = refl

-- ---- the log cut back: its length alone, then the magic byte by byte, over whatever stood there

abbrev strangely : Files
strangely = record { log = file_of (replicate 12 0xEE) 10; db = file_of [] 0; clog = file_of [] 0 }

shortened : (apply_to 64 0 Truncate strangely).log ∷ (apply_to 64 1 Truncate strangely).log ∷ (apply_to 64 3 Truncate strangely).log ∷ []
    ≡ file_of (replicate 12 0xEE) 10 ∷ file_of (replicate 12 0xEE) 0 ∷ file_of (0x41 ∷ 0x45 ∷ replicate 10 0xEE) 2 ∷ []
unfolding apply_to points stopped apply header log_magic
shortened = refl

-- its ninth point is the whole store, and so is any position past it
restored : (apply_to 64 9 Truncate strangely).log ∷ (apply_to 64 10 Truncate strangely).log ∷ []
    ≡ file_of (log_magic ++ replicate 4 0xEE) 8 ∷ file_of (log_magic ++ replicate 4 0xEE) 8 ∷ []
unfolding apply_to points stopped apply header log_magic
restored = refl

-- ---- a page past the end, of one sector: lengthened, then whole (keyturn's Orders computes a page of two sectors)

abbrev tail : Files
tail = record { log = file_of [] 0; db = file_of (1 ∷ 2 ∷ 3 ∷ 4 ∷ 5 ∷ 6 ∷ replicate 8 9) 6; clog = file_of [] 0 }

grew : (apply_to 4 1 (Page 2 (four 31)) tail).db ∷ (apply_to 4 2 (Page 2 (four 31)) tail).db ∷ (apply_to 4 3 (Page 2 (four 31)) tail).db ∷ []
    ≡ file_of (1 ∷ 2 ∷ 3 ∷ 4 ∷ 5 ∷ 6 ∷ replicate 6 0 ++ (9 ∷ 9 ∷ [])) 12
    ∷ file_of (1 ∷ 2 ∷ 3 ∷ 4 ∷ 5 ∷ 6 ∷ 0 ∷ 0 ∷ four 31 ++ (9 ∷ 9 ∷ [])) 12
    ∷ file_of (1 ∷ 2 ∷ 3 ∷ 4 ∷ 5 ∷ 6 ∷ 0 ∷ 0 ∷ four 31 ++ (9 ∷ 9 ∷ [])) 12 ∷ []
unfolding apply_to points stopped apply laid_to lay
grew = refl

-- ---- store numbers: 0 is none, whatever the position; in the second the first is whole; past the count all

numbered : (cut_all 600 0 5 (Log (begin 5) ∷ Truncate ∷ []) three).log.len
    ∷ (cut_all 600 1 5 (Log (begin 5) ∷ Truncate ∷ []) three).log.len
    ∷ (cut_all 600 2 0 (Log (begin 5) ∷ Truncate ∷ []) three).log.len
    ∷ (cut_all 600 2 1 (Log (begin 5) ∷ Truncate ∷ []) three).log.len
    ∷ (cut_all 600 3 0 (Log (begin 5) ∷ Truncate ∷ []) three).log.len ∷ []
    ≡ 8 ∷ 13 ∷ 17 ∷ 0 ∷ 8 ∷ []
unfolding cut_all apply_to points stopped apply header lay encode bytes_of log_magic
numbered = refl
