-- Openings, computed: the listing of document 01, and the cases that are easy to get wrong, with pages of 64 bytes. Assumes nothing.
use mathlib.Core.Path.{◌≡◌, refl}
use mathlib.Core.List.{List, [], ◌∷◌, ◌++◌}
use Prim.Native.Nat.{ℕ}
use lib.ListN.{length, take, replicate}
use lib.Seq.{sets}
use Rattle.wal.proofs.ParseLaws.{encode_all}
use Rattle.fields.specs.Bytes.{le_of, bytes_of, starts}
use Rattle.fields.specs.Files.{File, file_of, content, lay, header, unfit}
use Rattle.sorted.specs.Sorted.{insert_by, insert_all_by}
use Rattle.wal.specs.Records.{log_magic, Record, image, begin, commit, encode, body_of, record_of, decode, parse, records_in, start_of, log_of}
use Rattle.table.specs.declared.Entry.{Entry}
use Rattle.table.specs.Entries.{id_of, time_of, largest_by}
use Rattle.clog.specs.Slots.{clog_magic, code_of, bits_of, with_bits, valid_clog, open_clog, set_slot, record_all, codes, loaded_status, entry_of, entries_from, entries_in, settled_code, settled_byte, settled}
use Rattle.meta.specs.Page.{meta_magic, meta_page, has_meta, good_version, format_no}
use Rattle.world.specs.World.{Files}
use Rattle.world.specs.Refusals.{any_of, bad_buffers}
use Rattle.opening.specs.Opening.{replay, replayed, statuses, log_table, clog_table, full_table, open_room_no, open_no, log_time, with_meta, without_meta, opened_world, left_by, Opening, opening}

-- a file in a buffer of n bytes more
abbrev spare : ℕ → List ℕ → File
spare n bytes = file_of (bytes ++ replicate n 0xEE) (length bytes)

abbrev with_room : List ℕ → List ℕ → List ℕ → Files
with_room log db clog = record { log = spare 8 log; db = spare 92 db; clog = spare 16 clog }

abbrev logged : List Record → List ℕ
logged rs = log_magic ++ encode_all rs

-- the entries as numbers: id, code, time
rows : List Entry → List ℕ
rows [] = []
rows (e ∷ es) = id_of e ∷ code_of e.status ∷ time_of e.status ∷ rows es

-- an opening as numbers: its own and the database's length; page count, next id, next commit time, mark; the lengths of log and clog; the entries
seen : Opening → List (List ℕ)
unfolding rows
seen o =
    (o.number ∷ o.db ∷ [])
    ∷ (o.world.mem.pages ∷ o.world.mem.next.0 ∷ o.world.mem.time.0 ∷ o.world.mem.mark.0 ∷ [])
    ∷ (o.world.files.log.len ∷ o.world.files.clog.len ∷ [])
    ∷ rows o.world.mem.table
    ∷ []

opens : ℕ → Files → Opening
unfolding log_of start_of starts log_magic parse decode body_of record_of le_of bytes_of records_in insert_by insert_all_by largest_by lay header unfit clog_magic bits_of with_bits valid_clog open_clog set_slot record_all codes loaded_status entry_of entries_from entries_in settled_code settled_byte settled meta_magic meta_page has_meta good_version format_no any_of bad_buffers replay replayed statuses log_table clog_table full_table open_room_no open_no log_time with_meta without_meta opened_world left_by opening
opens P f = opening P f (replicate P 0)

-- begin 5, commit (5, 9), begin 7; no database and no clog
listing : seen (opens 4096 (with_room (logged (begin 5 ∷ commit 5 9 ∷ begin 7 ∷ [])) [] []))
    ≡ (0 ∷ 0 ∷ []) ∷ (0 ∷ 1 ∷ 10 ∷ 0 ∷ []) ∷ (8 ∷ 8 ∷ []) ∷ (5 ∷ 2 ∷ 9 ∷ 7 ∷ 3 ∷ 0 ∷ []) ∷ []
unfolding opens seen rows encode encode_all
listing = refl

-- page 0 with next id 6, next commit time 2, mark 1 and a version; slots of the clog: 1 Committed, 2 Active, 5 Active
abbrev page0 : ℕ → List ℕ
page0 version = sets (meta_page 64 6 2 1) 32 (bytes_of 4 version)

abbrev slots : List ℕ
slots = clog_magic ++ (0x18 ∷ 0x04 ∷ [])

-- the files that an opening left, opened again
abbrev again : Opening → Files
again o = o.world.files

-- with a meta page: the log's word on 5 stands over the clog's. Opened again at once, the next commit time and 5's time are forgotten
overlaid : seen (opens 64 (with_room (logged (commit 5 9 ∷ [])) (page0 2) slots))
    ++ seen (opens 64 (again (opens 64 (with_room (logged (commit 5 9 ∷ [])) (page0 2) slots))))
    ≡ (0 ∷ 64 ∷ []) ∷ (1 ∷ 6 ∷ 10 ∷ 1 ∷ []) ∷ (8 ∷ 10 ∷ []) ∷ (1 ∷ 2 ∷ 0 ∷ 2 ∷ 3 ∷ 0 ∷ 5 ∷ 2 ∷ 9 ∷ [])
    ∷ (0 ∷ 64 ∷ []) ∷ (1 ∷ 6 ∷ 2 ∷ 1 ∷ []) ∷ (8 ∷ 10 ∷ []) ∷ (1 ∷ 2 ∷ 0 ∷ 2 ∷ 3 ∷ 0 ∷ 5 ∷ 2 ∷ 0 ∷ [])
    ∷ []
unfolding opens seen rows encode encode_all bytes_of meta_magic meta_page clog_magic
overlaid = refl

-- a page 0 that replay makes whole is a meta page, whatever its version; the next opening gives 12
made-whole : seen (opens 64 (with_room (logged (image 1 (replicate 64 7) ∷ [])) (take 36 (page0 3)) slots))
    ++ seen (opens 64 (again (opens 64 (with_room (logged (image 1 (replicate 64 7) ∷ [])) (take 36 (page0 3)) slots))))
    ≡ (0 ∷ 128 ∷ []) ∷ (2 ∷ 6 ∷ 2 ∷ 1 ∷ []) ∷ (8 ∷ 10 ∷ []) ∷ (1 ∷ 2 ∷ 0 ∷ 2 ∷ 3 ∷ 0 ∷ 5 ∷ 3 ∷ 0 ∷ [])
    ∷ (12 ∷ 128 ∷ []) ∷ (0 ∷ 0 ∷ 0 ∷ 0 ∷ []) ∷ (8 ∷ 10 ∷ []) ∷ []
    ∷ []
unfolding opens seen rows encode encode_all bytes_of meta_magic meta_page clog_magic
made-whole = refl

-- an image is laid though no commit follows and the log is then refused; log and clog stay
torn : seen (opens 64 (with_room (logged (begin 5 ∷ image 0 (replicate 64 7) ∷ []) ++ (1 ∷ [])) [] slots))
    ++ (content (opens 64 (with_room (logged (begin 5 ∷ image 0 (replicate 64 7) ∷ []) ++ (1 ∷ [])) [] slots)).world.files.db ∷ [])
    ≡ (2 ∷ 64 ∷ []) ∷ (0 ∷ 0 ∷ 0 ∷ 0 ∷ []) ∷ (87 ∷ 10 ∷ []) ∷ [] ∷ replicate 64 7 ∷ []
unfolding opens seen rows encode encode_all log_magic clog_magic bytes_of
torn = refl

number : ℕ → Files → ℕ
unfolding opens
number P f = (opens P f).number

-- the order of the numbers: each log has what would give the next one too. An id past the clog, an image past the database; the last page number
numbers :
    number 64 (record { log = file_of [] 1; db = spare 0 (page0 3); clog = spare 0 [] })
    ∷ number 64 (record { log = spare 0 []; db = spare 0 (page0 3); clog = spare 0 [] })
    ∷ number 64 (record { log = spare 0 []; db = spare 0 (page0 2); clog = spare 0 [] })
    ∷ number 64 (with_room (logged (begin 64 ∷ image 2 (replicate 64 7) ∷ []) ++ (9 ∷ [])) (page0 2) [])
    ∷ number 64 (with_room (logged (image 4294967295 (replicate 64 7) ∷ [])) (page0 2) [])
    ∷ number 64 (with_room (logged (begin 64 ∷ image 1 (replicate 64 7) ∷ []) ++ (9 ∷ [])) (page0 2) [])
    ∷ number 64 (with_room (logged (begin 31 ∷ image 1 (replicate 64 7) ∷ []) ++ (9 ∷ [])) (page0 2) [])
    ∷ []
    ≡ 1 ∷ 12 ∷ 4 ∷ 5 ∷ 5 ∷ 6 ∷ 3 ∷ []
unfolding number encode encode_all bytes_of log_magic meta_magic meta_page
numbers = refl

-- 7 counts the ids of log and clog together, each once, beside an empty database too; a clog with another magic counts for nothing
full :
    number 64 (with_room (logged (begin 255 ∷ [])) [] (clog_magic ++ replicate 64 0xAA))
    ∷ number 64 (with_room (logged (begin 256 ∷ [])) [] (clog_magic ++ replicate 64 0xAA))
    ∷ number 64 (with_room [] [] (clog_magic ++ replicate 65 0xAA))
    ∷ number 64 (with_room [] [] (0 ∷ clog_magic ++ replicate 65 0xAA))
    ∷ []
    ≡ 0 ∷ 7 ∷ 7 ∷ 0 ∷ []
unfolding number encode encode_all bytes_of log_magic clog_magic
full = refl
