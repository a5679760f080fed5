-- When a call is refused, and with which number. Order: 1, 14, 9, 10, 11, 4, 5, 6, 7, 8. P is the page size. Assumes nothing.
--   1   a buffer over its limit, a frame buffer under one page, a length over its buffer
--   14  table or touched pages not ascending or over their limit, frames repeated or over the limit, a frame or touched page numbered 4,294,967,295, log or
--       clog length under 8; of a transaction that is handed in too
--   9   install while a transaction is installed
--   10  a page number handed in, in a list too, is 4,294,967,295, or a page is allocated when the page count is that
--   11  a 65th touched page
--   4, 5, 6  log, database, clog would outgrow its buffer, all stores of the call counted
--   7   table would pass 256 entries
--   8   a frame is needed and all are taken
use Rattle.std.specs.Prelude.{ℕ, zero, suc, ◌+◌, List, [], ◌∷◌, Bool, true, false, cond, not, ◌||◌, length, ltb}
use Rattle.fields.specs.Files.{room, unfit}
use Rattle.table.specs.declared.Entry.{Entry}
use Rattle.table.specs.Entries.{ascending}
use Rattle.frames.specs.Pages as pages
use Rattle.frames.specs.Pages.{distinct, bad_page, any_bad, frame_count}
use Rattle.world.specs.declared.Slot.{Slot}
use Rattle.world.specs.declared.Slot.TheVariants.{Installed, Empty}
use Rattle.world.specs.World.{Files, World}
use Rattle.world.specs.Steps.{Step, log_bytes, db_end, clog_end, sum_of, most_of}
use Rattle.world.specs.Calls.{Call, Install, Uninstall, AllocId, AllocPage, Begin, Read, Write, Flush, Commit, Rollback, Advance, steps, keeps}

-- one of the tests holds
unfoldable pub any_of : List Bool → Bool
any_of [] = false
any_of (b ∷ bs) = b || any_of bs

-- the first number that is not 0
abbrev pub or_else : ℕ → ℕ → ℕ
or_else zero b = b
or_else (suc a) b = suc a

-- ---- what every call tests first

unfoldable pub bad_buffers : ℕ → Files → List ℕ → Bool
bad_buffers P f frames =
    any_of
    (unfit 16777216 (room f.log) f.log.len ∷ unfit 16777216 (room f.db) f.db.len ∷ unfit 1048576 (room f.clog) f.clog.len ∷
    ltb (length frames) P ∷ [])

unfoldable pub bad_table : List Entry → Bool
bad_table es = any_of (ltb 256 (length es) ∷ not (ascending es) ∷ [])

unfoldable pub bad_touched : List ℕ → Bool
bad_touched ps = any_of (ltb 64 (length ps) ∷ not (pages.ascending ps) ∷ any_bad ps ∷ [])

-- most is how many frames there are
unfoldable pub bad_frames : ℕ → List ℕ → Bool
bad_frames most ps = any_of (ltb most (length ps) ∷ not (distinct ps) ∷ any_bad ps ∷ [])

unfoldable pub bad_store : ℕ → World → Bool
bad_store P w =
    any_of
    (ltb w.files.log.len 8 ∷ ltb w.files.clog.len 8 ∷ bad_table w.mem.table ∷ bad_touched w.mem.touched ∷
    bad_frames (frame_count 64 P (length w.frames)) w.mem.resident ∷ [])

unfoldable pub front_no : ℕ → World → ℕ
front_no P w = cond (bad_buffers P w.files w.frames) 1 (cond (bad_store P w) 14 0)

-- ---- what a call tests of its own: 14 and 9 of an install, 10

abbrev pub is_installed : Slot → Bool
is_installed (Installed id) = true
is_installed Empty = false

unfoldable pub argument_no : Call → World → ℕ
argument_no (Install id ps) w = cond (bad_touched ps) 14 (cond (is_installed w.mem.slot) 9 0)
argument_no Uninstall w = 0
argument_no AllocId w = 0
argument_no AllocPage w = cond (bad_page w.mem.pages) 10 0
argument_no (Begin id) w = 0
argument_no (Read p) w = cond (bad_page p) 10 0
argument_no (Write p bytes) w = cond (bad_page p) 10 0
argument_no (Flush p) w = cond (bad_page p) 10 0
argument_no Commit w = 0
argument_no (Rollback list) w = cond (any_bad list) 10 0
argument_no (Advance v) w = 0

-- 4, 5, 6: the room that stores need; exact, since no record is appended after a truncation
unfoldable pub room_no : ℕ → List Step → Files → ℕ
room_no P ss f =
    cond (ltb (room f.log) (f.log.len + sum_of log_bytes ss)) 4
    (cond (ltb (room f.db) (most_of (db_end P) ss)) 5
    (cond (ltb (room f.clog) (most_of clog_end ss)) 6 0))

-- 7, 8: what memory would hold
unfoldable pub hold_no : ℕ → World → ℕ
hold_no P v =
    cond (ltb 256 (length v.mem.table)) 7
    (cond (ltb (frame_count 64 P (length v.frames)) (length v.mem.resident)) 8 0)

unfoldable pub call_no : ℕ → Call → World → ℕ
call_no P c w =
    or_else (argument_no c w)
    (cond (ltb 64 (length (keeps P c w).mem.touched)) 11
    (or_else (room_no P (steps P c w) w.files) (hold_no P (keeps P c w))))

-- the number of a call, 0 where it is accepted
unfoldable pub refuses : ℕ → Call → World → ℕ
refuses P c w = or_else (front_no P w) (call_no P c w)
