-- Key-off, key-on in numbers, at pages of 64 bytes so that it computes: runs that meet the premises, and what is lost without each of them.
-- Assumes nothing.
use mathlib.Core.Path.{◌≡◌, refl}
use mathlib.Core.List.{List, [], ◌∷◌, ◌++◌}
use mathlib.Core.Bool.{Bool, true, false, ◌&&◌}
use Prim.Native.Nat.{ℕ}
use lib.ListN.{length, take, replicate}
use lib.Seq.{sets}
use Rattle.fields.specs.declared.TransactionId.{TransactionId}
use Rattle.fields.specs.Bytes.{le_of, bytes_of, starts, part}
use Rattle.fields.specs.Files.{File, file_of, content, lay, header, unfit}
use Rattle.sorted.specs.Sorted.{insert_by, insert_all_by, ascending_by}
use Rattle.wal.specs.Records.{log_magic, image, begin, commit, encode, body_of, record_of, decode, parse, records_in, start_of, log_of}
use Rattle.table.specs.declared.Status.{Status}
use Rattle.table.specs.declared.Status.TheVariants.{Active, Committed, Aborted}
use Rattle.table.specs.declared.Entry.{Entry}
use Rattle.table.specs.Entries.{largest_by}
use Rattle.clog.specs.Slots.{clog_magic, bits_of, with_bits, high_bits, valid_clog, open_clog, set_slot, record_all, cleared, clear_slots, codes, loaded_status, entry_of, entries_from, entries_in, settled_code, settled_byte, settled}
use Rattle.meta.specs.Page.{meta_magic, meta_page, has_meta, version, good_version, format_no}
use Rattle.frames.specs.Pages.{is_in, slot_of, distinct, any_bad, with_page, frame_count}
use Rattle.frames.specs.Copies.{page_of}
use Rattle.world.specs.World.{Files, World}
use Rattle.world.specs.Steps.{apply, apply_all, sum_of, most_of}
use Rattle.world.specs.Calls.{Call, Uninstall, AllocId, Begin, Write, Flush, Commit, Rollback, Advance, held_page, seat, write, revert, keep, held, catalog_pages, data_pages, committed, rolled_back, advanced, images, writes, flush_steps, commit_steps, data_steps, back_steps, rollback_steps, advance_steps, steps, flush_keeps, commit_keeps, rollback_keeps, advance_keeps, keeps}
use Rattle.world.specs.Refusals.{any_of, bad_buffers, bad_table, bad_touched, bad_frames, bad_store, front_no, argument_no, room_no, hold_no, call_no, refuses}
use Rattle.world.specs.Run.{done, call, run}
use Rattle.opening.specs.Opening.{replay, replayed, statuses, log_table, clog_table, full_table, open_room_no, open_no, log_time, with_meta, without_meta, opened_world, left_by, Opening, opening}

-- a file in a buffer of n bytes more
abbrev file : ℕ → List ℕ → File
file n bs = file_of (bs ++ replicate n 0) (length bs)

abbrev files : List ℕ → List ℕ → List ℕ → Files
files log db clog = record { log = file 600 log; db = file 640 db; clog = file 16 clog }

abbrev entry : ℕ → Status → Entry
entry id s = record { id = record { 0 = id }; status = s }

abbrev at : ℕ → Status
at t = Committed (record { 0 = t })

-- of an opening: its number, and whether a meta page of version 0 or 2 stands after replay; of the run of calls after it: table and mark; of the opening after
-- that: its number, table, mark and next id
pub record Story : Type 0 where
  pub opened : ℕ
  pub fits : Bool
  pub held : List Entry
  pub mark : ℕ
  pub again : ℕ
  pub found : List Entry
  pub same : ℕ
  pub next : ℕ

abbrev told : List ℕ → Opening → World → Opening → Story
told d o w n = record {
  opened = o.number;
  fits = has_meta 64 d && good_version (version d);
  held = w.mem.table;
  mark = w.mem.mark.0;
  again = n.number;
  found = n.world.mem.table;
  same = n.world.mem.mark.0;
  next = n.world.mem.next.0;
}

story : Files → List Call → Story
unfolding le_of bytes_of starts part lay header unfit insert_by insert_all_by ascending_by log_magic encode body_of record_of decode parse records_in start_of log_of largest_by clog_magic bits_of with_bits high_bits valid_clog open_clog set_slot record_all cleared clear_slots codes loaded_status entry_of entries_from entries_in settled_code settled_byte settled meta_magic meta_page has_meta good_version format_no is_in slot_of distinct any_bad with_page frame_count page_of apply apply_all sum_of most_of held_page seat write revert keep held catalog_pages data_pages committed rolled_back advanced images writes flush_steps commit_steps data_steps back_steps rollback_steps advance_steps steps flush_keeps commit_keeps rollback_keeps advance_keeps keeps any_of bad_buffers bad_table bad_touched bad_frames bad_store front_no argument_no room_no hold_no call_no refuses done call run replay replayed statuses log_table clog_table full_table open_room_no open_no log_time with_meta without_meta opened_world left_by opening
story f cs =
    let o = opening 64 f (replicate 256 0) in
    let w = run 64 cs o.world in
    let n = opening 64 w.files w.frames in
    told (content (replayed 64 f)) o w n

-- a log with a begin of 3 and an image of page 1; page 0 with next id 6, time 2, mark 1; a clog that has 0 Active, 1 Committed, 2 Aborted
abbrev first : Files
first = files (log_magic ++ (encode (begin 3) ++ encode (image 1 (replicate 64 9)))) (meta_page 64 6 2 1) (clog_magic ++ (57 ∷ []))

abbrev tid : ℕ → TransactionId
tid n = record { 0 = n }

-- what the first opening holds
abbrev start : List Entry
start = entry 0 Aborted ∷ entry 1 (at 0) ∷ entry 2 Aborted ∷ entry 3 Aborted ∷ []

runs :
    story first []
    -- page 2 is flushed outside a transaction; 300 has no room in the clog, so that its begin is refused; 9 and 12 are left open
    ∷ story first (AllocId ∷ Begin (tid 9) ∷ Write 2 (5 ∷ []) ∷ Uninstall ∷ Flush 2 ∷ Begin (tid 300) ∷ Begin (tid 10) ∷ Rollback [] ∷ Begin (tid 12) ∷ [])
    -- 9 is committed at 2; the mark goes to 3, and not back
    ∷ story first (Begin (tid 9) ∷ Write 2 (5 ∷ []) ∷ Flush 2 ∷ Commit ∷ Begin (tid 10) ∷ Advance (tid 3) ∷ Advance (tid 2) ∷ [])
    -- 50, below the mark, is forgotten with its slot: the next id is above the table that is found, not above the one that was held
    ∷ story first (Begin (tid 50) ∷ Commit ∷ Advance (tid 60) ∷ [])
    ∷ []
    ≡ record { opened = 0; fits = true; held = start; mark = 1; again = 0; found = start; same = 1; next = 6 }
    ∷ record {
      opened = 0;
      fits = true;
      held = start ++ (entry 9 Active ∷ entry 10 Aborted ∷ entry 12 Active ∷ []);
      mark = 1;
      again = 0;
      found = start ++ (entry 9 Aborted ∷ entry 10 Aborted ∷ entry 12 Aborted ∷ []);
      same = 1;
      next = 13;
    }
    ∷ record {
      opened = 0;
      fits = true;
      held = start ++ (entry 9 (at 2) ∷ entry 10 Active ∷ []);
      mark = 3;
      again = 0;
      found = entry 3 Aborted ∷ entry 9 (at 0) ∷ entry 10 Aborted ∷ [];
      same = 3;
      next = 11;
    }
    ∷ record { opened = 0; fits = true; held = start ++ (entry 50 (at 2) ∷ []); mark = 60; again = 0; found = []; same = 60; next = 6 }
    ∷ []
unfolding story encode bytes_of log_magic clog_magic meta_magic meta_page
runs = refl

-- without a premise: page 0 flushed outside a transaction, so that its bytes have no magic; no meta page, so that the log's entry goes with the log; 36
-- bytes of a page 0 of version 3, which replay makes a whole page
without :
    story first (Write 0 [] ∷ Flush 0 ∷ [])
    ∷ story (files (log_magic ++ encode (commit 5 9)) [] []) []
    ∷ story (files (log_magic ++ encode (image 1 (replicate 64 9))) (take 36 (sets (meta_page 64 6 2 1) 32 (bytes_of 4 3))) []) []
    ∷ []
    ≡ record { opened = 0; fits = true; held = start; mark = 1; again = 0; found = []; same = 0; next = 1 }
    ∷ record { opened = 0; fits = false; held = entry 5 (at 9) ∷ []; mark = 0; again = 0; found = []; same = 0; next = 1 }
    ∷ record { opened = 0; fits = false; held = []; mark = 1; again = 12; found = []; same = 0; next = 0 }
    ∷ []
unfolding story encode bytes_of log_magic clog_magic meta_magic meta_page
without = refl
