-- What the contracts of private functions cite: a pass over the log record by record, and what an opening has read before it changes a byte; a reader of the public ones need not know it. P is the page size, N the table's limit. Assumes nothing.
use Rattle.std.specs.Prelude.{ℕ, ◌+◌, ◌*◌, Bool, ◌||◌, cond, ltb}
use Rattle.wal.specs.declared.WalRecord.{WalRecord}
use Rattle.wal.specs.declared.WalRecord.TheVariants.{Image, Begin, Commit, Abort, Checkpoint}
use Rattle.wal.specs.declared.Read.{Read}
use Rattle.wal.specs.declared.Read.TheVariants.{Found, End, Torn, Unknown, Outside}
use Rattle.table.specs.declared.Status.TheVariants.{Active, Committed, Aborted}
use Rattle.table.specs.declared.Entry.{Entry}
use Rattle.table.specs.Entries.{Inserted, empty_table, inserted, overlaid, settled_table}
use Rattle.frames.specs.Pages.{bad_page}
use Rattle.world.specs.Run.{decided}
use Rattle.opening.specs.Opening.{past_clog}
use Rattle.table.specs.declared.Table.{Table}
use Rattle.scan.specs.Scans.{Scanned}
use Rattle.scan.specs.Surveys.{Surveyed}

-- the image of a page has no room
unfoldable pub image_past : ℕ → ℕ → ℕ → Bool
image_past P size page = bad_page page || ltb size (page * P + P)

-- a status set; 7 and no entry from the 257th id on
abbrev pub or_none : ℕ → Inserted → Inserted
or_none N r = decided r.number r (record { number = 7; table = empty_table N })

unfoldable pub held_with : ℕ → Inserted → Entry → Inserted
held_with N h e = decided h.number (or_none N (inserted N h.table e)) h

unfoldable pub with_image : ℕ → ℕ → ℕ → Scanned → Scanned
with_image P size page s = record { images = image_past P size page || s.images; ids = s.ids; held = s.held; ending = s.ending }

unfoldable pub with_status : ℕ → Entry → Scanned → Scanned
with_status size e s = record { images = s.images; ids = past_clog size e || s.ids; held = held_with 256 s.held e; ending = s.ending }

abbrev pub with_ending : ℕ → Scanned → Scanned
with_ending n s = record { images = s.images; ids = s.ids; held = s.held; ending = n }

-- by the record that was read
abbrev pub with_record : ℕ → ℕ → ℕ → WalRecord → Scanned → Scanned
with_record P db clog (Image page place) s = with_image P db page s
with_record P db clog (Begin id) s = with_status clog (record { id = id; status = Active }) s
with_record P db clog (Commit id time) s = with_status clog (record { id = id; status = Committed time }) s
with_record P db clog (Abort id) s = with_status clog (record { id = id; status = Aborted }) s
with_record P db clog Checkpoint s = s

abbrev pub with_read : ℕ → ℕ → ℕ → Read → Scanned → Scanned
with_read P db clog (Found r next) s = with_record P db clog r s
with_read P db clog End s = s
with_read P db clog (Torn missing) s = with_ending 2 s
with_read P db clog Unknown s = with_ending 3 s
with_read P db clog Outside s = s

unfoldable pub refusal : ℕ → ℕ → Surveyed
refusal N n = record { number = n; logged = empty_table N; full = empty_table N }

-- 4, 5, 6 from what a pass over the log found, and the sizes of the log's and the clog's buffer
unfoldable pub room_by : Scanned → ℕ → ℕ → ℕ
room_by s log clog = cond (ltb log 8) 4 (cond s.images 5 (cond (ltb clog 8 || s.ids) 6 0))

-- the log's statuses, settled, laid over what the clog holds; 7 where one of them, or both together, have more than N entries
abbrev pub laid_over : ℕ → Table → Inserted → Surveyed
laid_over N logged r = decided r.number (record { number = 0; logged = logged; full = r.table }) (refusal N 7)

unfoldable pub together : ℕ → Inserted → Inserted → Surveyed
together N h c =
    decided h.number (decided c.number (laid_over N (settled_table h.table) (overlaid N c.table (settled_table h.table))) (refusal N 7))
    (refusal N 7)
