-- Small stores that the prover computes with: files, the world that a run of calls leaves, and what the opening after a cut tells. Assumes nothing.
use Prim.Native.Nat.{ℕ}
use mathlib.Core.List.{List, [], ◌∷◌, ◌++◌}
use lib.ListN.{length, replicate, get_or}
use Rattle.fields.specs.declared.TransactionId.{TransactionId}
use Rattle.fields.specs.Bytes.{le_of, bytes_of, starts, part}
use Rattle.fields.specs.Files.{File, file_of, content, lay, header, unfit}
use Rattle.sorted.specs.Sorted.{insert_by, insert_all_by, look_by, ascending_by}
use Rattle.wal.specs.Records.{log_magic, encode, body_of, record_of, decode, parse, records_in, start_of, log_of}
use Rattle.table.specs.declared.Status.{Status}
use Rattle.table.specs.declared.Status.TheVariants.{Committed}
use Rattle.std.specs.Prelude.{Option, Some}
use Rattle.table.specs.Entries.{status_of, largest_by}
use Rattle.clog.specs.Slots.{clog_magic, bits_of, with_bits, high_bits, valid_clog, open_clog, set_slot, record_all, cleared, clear_slots, span_below, codes, loaded_status, entry_of, entries_from, entries_in, settled_code, settled_byte, settled}
use Rattle.meta.specs.Page.{meta_magic, meta_page, has_meta, good_version, format_no}
use Rattle.frames.specs.Pages.{is_in, slot_of, distinct, any_bad, with_page, frame_count}
use Rattle.frames.specs.Copies.{page_of}
use Rattle.world.specs.World.{Files, World}
use Rattle.world.specs.Steps.{Step, apply, apply_all, sum_of, most_of}
use Rattle.world.specs.Calls.{Call, held_page, seat, write, revert, keep, held, catalog_pages, data_pages, committed, rolled_back, advanced, images, writes, flush_steps, commit_steps, data_steps, back_steps, rollback_steps, advance_steps, steps, flush_keeps, commit_keeps, rollback_keeps, advance_keeps, keeps}
use Rattle.world.specs.Refusals.{any_of, bad_buffers, bad_table, bad_touched, bad_frames, bad_store, front_no, argument_no, room_no, hold_no, call_no, refuses}
use Rattle.world.specs.Run.{done, call, run}
use Rattle.opening.specs.Opening.{replay, replayed, statuses, log_table, clog_table, full_table, open_room_no, open_no, log_time, with_meta, without_meta, opened_world, left_by, opening}
use Rattle.partway.specs.Partway.{laid_to, cleared_to, points, stopped, apply_to, cut_all}
use Rattle.torn.specs.Torn.{Met, torn_no, opening_torn, torn_met}

-- n zero bytes of room after the bytes
abbrev pub file : ℕ → List ℕ → File
file n bs = file_of (bs ++ replicate n 0) (length bs)

abbrev pub tid : ℕ → TransactionId
tid n = record { 0 = n }

abbrev pub at : ℕ → Option Status
at t = Some (Committed (record { 0 = t }))

-- at pages of 64 bytes: page 0 with next id 6, time 2, mark 0, the log's magic, and a clog's body
abbrev pub small : List ℕ → Files
small body = record { log = file 600 log_magic; db = file 640 (meta_page 64 6 2 0); clog = file 16 (clog_magic ++ body) }

abbrev pub frames : List ℕ
frames = replicate 256 0

-- the world that a run leaves
unfoldable pub ran : Files → List Call → World
unfolding le_of bytes_of starts part lay header unfit insert_by insert_all_by ascending_by log_magic encode body_of record_of decode parse records_in start_of log_of largest_by clog_magic bits_of with_bits high_bits valid_clog open_clog set_slot record_all cleared clear_slots codes loaded_status entry_of entries_from entries_in settled_code settled_byte settled meta_magic meta_page has_meta good_version format_no is_in slot_of distinct any_bad with_page frame_count page_of apply apply_all sum_of most_of held_page seat write revert keep held catalog_pages data_pages committed rolled_back advanced images writes flush_steps commit_steps data_steps back_steps rollback_steps advance_steps steps flush_keeps commit_keeps rollback_keeps advance_keeps keeps any_of bad_buffers bad_table bad_touched bad_frames bad_store front_no argument_no room_no hold_no call_no refuses done call run replay replayed statuses log_table clog_table full_table open_room_no open_no log_time with_meta without_meta opened_world left_by opening
ran f cs = run 64 cs (opening 64 f frames).world

-- of the opening of files after a cut: its number, the status of an id, the first byte of page 2, and the torn record that was met
pub record Told : Type 0 where
  pub number : ℕ
  pub status : Option Status
  pub byte : ℕ
  pub tail : Met

abbrev pub saying : ℕ → Option Status → ℕ → Met → Told
saying n s b t = record { number = n; status = s; byte = b; tail = t }

-- stores cut at (k, pos), in the world that the call finds
unfoldable pub cut_open : ℕ → World → List Step → ℕ → ℕ → Told
unfolding ran status_of look_by span_below laid_to cleared_to points stopped apply_to cut_all torn_no opening_torn torn_met
cut_open id w ss k pos =
    let f = cut_all 64 k pos ss w.files in
    let o = opening_torn 64 f w.frames in
    saying o.number (status_of id o.world.mem.table) (get_or (content o.world.files.db) 128 0) (torn_met 64 f w.frames)

-- the next commit time after it
unfoldable pub time_after : World → List Step → ℕ → ℕ → ℕ
unfolding cut_open
time_after w ss k pos = (opening_torn 64 (cut_all 64 k pos ss w.files) w.frames).world.mem.time.0

-- the stores of a call, and how many points each has
unfoldable pub stores_of : World → Call → List Step
unfolding ran
stores_of w c = steps 64 c w

unfoldable pub points_of : World → Call → List ℕ
unfolding ran span_below points
points_of w c = go (steps 64 c w) w.files
  where
    go : List Step → Files → List ℕ
    go [] f = []
    go (s ∷ ss) f = points 64 s f ∷ go ss (apply 64 s f)

-- stores cut at (k, pos) on files with pages of 576 bytes, which have two sectors: the number of the opening after it, and the first byte of each sector of page 1
unfoldable pub two_sectors : Files → List Step → ℕ → ℕ → List ℕ
unfolding ran status_of look_by span_below laid_to cleared_to points stopped apply_to cut_all torn_no opening_torn torn_met
two_sectors f ss k pos =
    let o = opening_torn 576 (cut_all 576 k pos ss f) (replicate 576 0) in
    let db = content o.world.files.db in
    o.number ∷ get_or db 576 0 ∷ get_or db 1088 0 ∷ []

-- the number of an opening in the old mode
unfoldable pub old_open : Files → ℕ
unfolding ran
old_open f = (opening 64 f frames).number
