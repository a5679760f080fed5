-- The calls on a store: the stores of each, and what it leaves in memory and in the frame buffer. P is the page size. Assumes nothing.
--
-- Install puts a transaction in; uninstall hands it out. Allocating gives the next id or the page count and raises it by one, the id stopping at the maximum.
-- Begin installs, replacing any transaction: table Active, begin record, clog.
-- Reading or writing a page makes its frame resident, from the file or zeros, and raises the page count past it.
-- Flush: inside a transaction marks the page touched; outside, logs then writes a resident page.
-- Commit: images of the touched resident pages ascending, commit record, the pages, clog, checkpoint, truncation, meta; with no transaction nothing.
-- Rollback with a list of catalog pages: abort record, clog; the touched resident pages outside pages 1, 2 and the list are all logged, then all written, then
-- checkpoint and truncation, only if there are any; meta. Touched resident catalog pages get the file's bytes back in their frames, or zeros past its end.
-- Advancing the mark: nothing if it is not above the old one; else compaction and meta.
-- Writing meta writes page 0's frame first, as writing a page does.
use Rattle.std.specs.Prelude.{ℕ, ◌+◌, max, List, [], ◌∷◌, ◌++◌, Bool, cond, not, ◌||◌, length, ltb, eqb}
use Rattle.fields.specs.declared.TransactionId.{TransactionId}
use Rattle.fields.specs.declared.CommitTime.{CommitTime}
use Rattle.fields.specs.Bytes.{part}
use Rattle.fields.specs.Files.{File}
use Rattle.wal.specs.Records.{image, begin, commit, abort, checkpoint}
use Rattle.table.specs.declared.Status.{Status}
use Rattle.table.specs.declared.Status.TheVariants.{Active, Committed, Aborted}
use Rattle.table.specs.Entries.{insert_entry, next64}
use Rattle.meta.specs.Page.{meta_page}
use Rattle.frames.specs.Pages.{is_in, slot_of, with_page, touch}
use Rattle.frames.specs.Copies.{page_of, frame_of, with_frame}
use Rattle.world.specs.declared.Slot.{Slot}
use Rattle.world.specs.declared.Slot.TheVariants.{Installed, Empty}
use Rattle.world.specs.World.{Mem, World, with_mem, with_counts, with_table, with_resident, with_transaction}
use Rattle.world.specs.Steps.{Step, Log, Page, SetSlot, Compact, Truncate, apply_all}

pub data Call : Type 0 where
  Install : TransactionId → List ℕ → Call
  Uninstall : Call
  AllocId : Call
  AllocPage : Call
  Begin : TransactionId → Call
  Read : ℕ → Call
  Write : ℕ → List ℕ → Call
  Flush : ℕ → Call
  Commit : Call
  Rollback : List ℕ → Call
  Advance : TransactionId → Call

-- ---- frames

-- the bytes of a resident page
unfoldable pub held_page : ℕ → World → ℕ → List ℕ
held_page P w p = frame_of P w.frames (slot_of p w.mem.resident)

-- p becomes resident with the bytes of the file db, unless it is, and the page count is raised past it
unfoldable pub seat : ℕ → File → ℕ → World → World
seat P db p w =
    let m = w.mem in
    record {
      files = w.files;
      frames = cond (is_in p m.resident) w.frames (with_frame P w.frames (length m.resident) (page_of P db p));
      mem = with_counts (max m.pages (p + 1)) m.next m.time m.mark (with_resident (with_page p m.resident) m);
    }

-- bytes written to page p: it is seated, and they stand in its frame
unfoldable pub write : ℕ → File → ℕ → List ℕ → World → World
write P db p bytes w =
    let v = seat P db p w in
    record { files = v.files; frames = with_frame P v.frames (slot_of p v.mem.resident) (part P bytes 0); mem = v.mem }

-- the pages ps get the file's bytes back
unfoldable pub revert : ℕ → File → List ℕ → World → World
revert P db [] w = w
revert P db (p ∷ ps) w = revert P db ps (write P db p (page_of P db p) w)

-- ---- touched pages

unfoldable pub keep : (ℕ → Bool) → List ℕ → List ℕ
keep t [] = []
keep t (p ∷ ps) = cond (t p) (p ∷ []) [] ++ keep t ps

-- the touched resident pages; of these the catalog pages and the data pages
unfoldable pub held : Mem → List ℕ
held m = keep (λ p. is_in p m.resident) m.touched

abbrev pub is_catalog : List ℕ → ℕ → Bool
is_catalog list p = eqb p 1 || eqb p 2 || is_in p list

unfoldable pub catalog_pages : List ℕ → Mem → List ℕ
catalog_pages list m = keep (is_catalog list) (held m)

unfoldable pub data_pages : List ℕ → Mem → List ℕ
data_pages list m = keep (λ p. not (is_catalog list p)) (held m)

-- ---- memory

-- the status of an id is set
abbrev pub noted : TransactionId → Status → Mem → Mem
noted id s m = with_table (insert_entry (record { id = id; status = s }) m.table) m

abbrev pub next_id : TransactionId → TransactionId
next_id i = record { 0 = next64 i.0 }

abbrev pub next_time : CommitTime → CommitTime
next_time t = record { 0 = next64 t.0 }

-- the id is Committed at the next commit time, which goes up by one; the transaction's place is emptied
unfoldable pub committed : TransactionId → Mem → Mem
committed id m =
    with_transaction Empty [] (with_counts m.pages m.next (next_time m.time) m.mark (noted id (Committed m.time) m))

unfoldable pub rolled_back : TransactionId → Mem → Mem
rolled_back id m = with_transaction Empty [] (noted id Aborted m)

unfoldable pub advanced : TransactionId → Mem → Mem
advanced w m = with_counts m.pages m.next m.time w m

-- ---- the stores of each call

abbrev pub meta_step : ℕ → Mem → Step
meta_step P m = Page 0 (meta_page P m.next.0 m.time.0 m.mark.0)

-- pages logged, pages written
unfoldable pub images : ℕ → World → List ℕ → List Step
images P w [] = []
images P w (p ∷ ps) = Log (image p (held_page P w p)) ∷ images P w ps

unfoldable pub writes : ℕ → World → List ℕ → List Step
writes P w [] = []
writes P w (p ∷ ps) = Page p (held_page P w p) ∷ writes P w ps

unfoldable pub flush_steps : ℕ → ℕ → World → Slot → List Step
flush_steps P p w (Installed id) = []
flush_steps P p w Empty = cond (is_in p w.mem.resident) (Log (image p (held_page P w p)) ∷ Page p (held_page P w p) ∷ []) []

unfoldable pub commit_steps : ℕ → World → Slot → List Step
commit_steps P w Empty = []
commit_steps P w (Installed id) =
    images P w (held w.mem) ++ (Log (commit id.0 w.mem.time.0) ∷ (writes P w (held w.mem) ++
    (SetSlot id.0 (Committed w.mem.time) ∷ Log checkpoint ∷ Truncate ∷ meta_step P (committed id w.mem) ∷ [])))

unfoldable pub data_steps : ℕ → World → List ℕ → List Step
data_steps P w [] = []
data_steps P w (p ∷ ps) = images P w (p ∷ ps) ++ (writes P w (p ∷ ps) ++ (Log checkpoint ∷ Truncate ∷ []))

-- the stores of a rollback before meta
unfoldable pub back_steps : ℕ → List ℕ → World → TransactionId → List Step
back_steps P list w id = Log (abort id.0) ∷ SetSlot id.0 Aborted ∷ data_steps P w (data_pages list w.mem)

unfoldable pub rollback_steps : ℕ → List ℕ → World → Slot → List Step
rollback_steps P list w Empty = []
rollback_steps P list w (Installed id) = back_steps P list w id ++ (meta_step P (rolled_back id w.mem) ∷ [])

unfoldable pub advance_steps : ℕ → TransactionId → World → List Step
advance_steps P v w = cond (ltb w.mem.mark.0 v.0) (Compact v.0 ∷ meta_step P (advanced v w.mem) ∷ []) []

unfoldable pub steps : ℕ → Call → World → List Step
steps P (Install id ps) w = []
steps P Uninstall w = []
steps P AllocId w = []
steps P AllocPage w = []
steps P (Begin id) w = Log (begin id.0) ∷ SetSlot id.0 Active ∷ []
steps P (Read p) w = []
steps P (Write p bytes) w = []
steps P (Flush p) w = flush_steps P p w w.mem.slot
steps P Commit w = commit_steps P w w.mem.slot
steps P (Rollback list) w = rollback_steps P list w w.mem.slot
steps P (Advance v) w = advance_steps P v w

-- ---- what each call leaves in memory and frames

-- meta in page 0's frame; a page that has to be made resident is read from the file db
abbrev pub meta_written : ℕ → File → Mem → World → World
meta_written P db m w = write P db 0 (meta_page P m.next.0 m.time.0 m.mark.0) (with_mem m w)

unfoldable pub flush_keeps : ℕ → World → Slot → World
flush_keeps p w Empty = w
flush_keeps p w (Installed id) = with_mem (with_transaction (Installed id) (touch p w.mem.touched) w.mem) w

unfoldable pub commit_keeps : ℕ → World → Slot → World
commit_keeps P w Empty = w
commit_keeps P w (Installed id) = meta_written P w.files.db (committed id w.mem) w

-- a revert reads the file after the data pages were written
unfoldable pub rollback_keeps : ℕ → List ℕ → World → Slot → World
rollback_keeps P list w Empty = w
rollback_keeps P list w (Installed id) =
    let db = (apply_all P (back_steps P list w id) w.files).db in
    let v = revert P db (catalog_pages list w.mem) w in
    meta_written P db (rolled_back id v.mem) v

unfoldable pub advance_keeps : ℕ → TransactionId → World → World
advance_keeps P v w = cond (ltb w.mem.mark.0 v.0) (meta_written P w.files.db (advanced v w.mem) w) w

unfoldable pub keeps : ℕ → Call → World → World
keeps P (Install id ps) w = with_mem (with_transaction (Installed id) ps w.mem) w
keeps P Uninstall w = with_mem (with_transaction Empty [] w.mem) w
keeps P AllocId w = with_mem (with_counts w.mem.pages (next_id w.mem.next) w.mem.time w.mem.mark w.mem) w
keeps P AllocPage w = with_mem (with_counts (w.mem.pages + 1) w.mem.next w.mem.time w.mem.mark w.mem) w
keeps P (Begin id) w = with_mem (with_transaction (Installed id) [] (noted id Active w.mem)) w
keeps P (Read p) w = seat P w.files.db p w
keeps P (Write p bytes) w = write P w.files.db p bytes w
keeps P (Flush p) w = flush_keeps p w w.mem.slot
keeps P Commit w = commit_keeps P w w.mem.slot
keeps P (Rollback list) w = rollback_keeps P list w w.mem.slot
keeps P (Advance v) w = advance_keeps P v w
