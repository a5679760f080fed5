-- Opening a store: three files, as power or a shutdown left them, become one world, or the opening is refused with a number. P is the page size.
--
-- Its number is that of the first test that fails, 0 where none does:
--   1     a buffer over its limit, a frame buffer under one page, a length over its buffer
--   12    the database as found has a whole page 0 with the magic, and there a version that is neither 0 nor 2
--   4     log buffer under 8
--   5     an image of the log that lies past the database's buffer, or is of page 4,294,967,295
--   6     clog buffer under 8, or an id in the log whose clog byte lies past the buffer
--   7     more than 256 distinct ids in the log and a valid clog's nonzero slots together
--   2, 3  the log's first bad record: its fields are cut short; its tag is not 1 to 5
-- 5, 6 and 7 cover the records before the first bad one, and are tested whether or not a meta page stands.
--
-- The log: one of 0 bytes counts as the magic alone; one of 1 to 7 bytes or with another magic has no records. Each page image is laid at page number times P,
-- whether or not a commit follows. Begin, commit and abort set the id's status, the last one standing; after the last record Active becomes Aborted.
-- An accepted opening leaves the log as its magic.
--
-- If page 0 is whole after replay and has the magic, a meta page stands: the clog is loaded, or reset where it is not valid, and the log's statuses are laid
-- over it, in the clog file too; next id is the largest of 1, the stored one, and 1 + the largest id in the table; next commit time is the larger of the stored
-- one and the log's; the mark is the stored one. The version is not looked at again. Otherwise the clog is reset, the table is the log's, next id 1, mark 0.
-- The log's next commit time is 1 + the largest time still Committed in its table, or 1. Sums stop at the 64-bit maximum.
-- The page count is the database's length after replay div P. No page is resident, no transaction is in, and the frame buffer stays as it was.
--
-- A refusal changes no byte, with one exception: one with 2 or 3 has laid the images before the bad record, and tells the database's length after them.
-- Assumes nothing.
use Rattle.std.specs.Prelude.{ℕ, ◌+◌, ◌*◌, ◌/◌, max, List, [], ◌∷◌, ◌++◌, map, Bool, false, cond, ◌||◌, length, ltb, leb, eqb, Result, Ok, Err}
use Rattle.fields.specs.Files.{File, content, room, lay, header}
use Rattle.fields.specs.Answers.{Told}
use Rattle.fields.specs.Refusals.{number_of}
use Rattle.wal.specs.Records.{log_magic, Record, image, begin, commit, abort, checkpoint, Ending, ending_no, records_in, log_of}
use Rattle.table.specs.declared.Status.TheVariants.{Active, Committed, Aborted}
use Rattle.table.specs.declared.Entry.{Entry}
use Rattle.table.specs.Entries.{id_of, insert_all, active_to_aborted, largest_id, largest_time, next64}
use Rattle.clog.specs.Slots.{clog_magic, valid_clog, open_clog, record_all, entries_in, settled}
use Rattle.meta.specs.Page.{has_meta, stored_next, stored_time, stored_mark, format_no}
use Rattle.frames.specs.Pages.{bad_page}
use Rattle.world.specs.declared.Lens.{Lens}
use Rattle.world.specs.declared.Slot.TheVariants.{Empty}
use Rattle.world.specs.World.{Files, files_of, Mem, World}
use Rattle.world.specs.Steps.{with_db}
use Rattle.world.specs.Refusals.{any_of, or_else, bad_buffers}
use Rattle.world.specs.Run.{decided}
use Rattle.form.specs.declared.Store.{Store}
use Rattle.form.specs.Store.{no_store, laid_store, ending, Given, given}
use Rattle.opening.specs.declared.Unopened.{Unopened}
use Rattle.opening.specs.declared.Unopened.TheVariants.{Refused, Torn, Unknown}

-- ---- the log: the records before the first bad one, how it ends, and the number of that: 0 its last byte, 2 or 3 a bad record

abbrev pub records : ℕ → File → List Record
records P log = records_in (log_of P (content log)).found

abbrev pub end_of : ℕ → File → Ending
end_of P log = (log_of P (content log)).ending

abbrev pub end_no : ℕ → File → ℕ
end_no P log = ending_no (log_of P (content log)).ending

-- ---- the database after replay

abbrev pub laid_by : ℕ → Record → File → File
laid_by P (image page bytes) db = lay db (page * P) bytes
laid_by P (begin id) db = db
laid_by P (commit id time) db = db
laid_by P (abort id) db = db
laid_by P checkpoint db = db

unfoldable pub replay : ℕ → List Record → File → File
replay P [] db = db
replay P (r ∷ rs) db = replay P rs (laid_by P r db)

unfoldable pub replayed : ℕ → Files → File
replayed P f = replay P (records P f.log) f.db

-- ---- the log's table, what a valid clog holds, and the one laid over the other

abbrev pub noted : Record → List Entry
noted (image page bytes) = []
noted (begin id) = record { id = record { 0 = id }; status = Active } ∷ []
noted (commit id time) = record { id = record { 0 = id }; status = Committed (record { 0 = time }) } ∷ []
noted (abort id) = record { id = record { 0 = id }; status = Aborted } ∷ []
noted checkpoint = []

-- the statuses that records set, in order
unfoldable pub statuses : List Record → List Entry
statuses [] = []
statuses (r ∷ rs) = noted r ++ statuses rs

unfoldable pub log_table : ℕ → File → List Entry
log_table P log = active_to_aborted (insert_all (statuses (records P log)) [])

unfoldable pub clog_table : File → List Entry
clog_table clog = cond (valid_clog clog) (entries_in 8 0 (content clog)) []

unfoldable pub full_table : ℕ → Files → List Entry
full_table P f = insert_all (log_table P f.log) (clog_table f.clog)

-- ---- the number

-- an image that has no room in a database buffer of this size
abbrev pub past_db : ℕ → ℕ → Record → Bool
past_db P size (image page bytes) = bad_page page || ltb size (page * P + length bytes)
past_db P size (begin id) = false
past_db P size (commit id time) = false
past_db P size (abort id) = false
past_db P size checkpoint = false

-- an id whose byte lies past a clog buffer of this size
abbrev pub past_clog : ℕ → Entry → Bool
past_clog size e = leb size (8 + id_of e / 4)

-- 4, 5, 6, 7
unfoldable pub open_room_no : ℕ → Files → ℕ
open_room_no P f =
    cond (ltb (room f.log) 8) 4
    (cond (any_of (map (past_db P (room f.db)) (records P f.log))) 5
    (cond (ltb (room f.clog) 8 || any_of (map (past_clog (room f.clog)) (statuses (records P f.log)))) 6
    (cond (ltb 256 (length (full_table P f))) 7 0)))

-- end is the number of the log's ending
abbrev pub number_by : ℕ → ℕ → Files → List ℕ → ℕ
number_by P end f frames = cond (bad_buffers P f frames) 1 (or_else (format_no P f.db) (or_else (open_room_no P f) end))

unfoldable pub open_no : ℕ → Files → List ℕ → ℕ
open_no P f frames = number_by P (end_no P f.log) f frames

-- ---- the world after an accepted opening

-- the log's next commit time
unfoldable pub log_time : ℕ → File → ℕ
log_time P log = next64 (largest_time (log_table P log))

-- page count, next id, next commit time, mark and table; no page resident, no transaction
abbrev pub at_rest : ℕ → ℕ → ℕ → ℕ → List Entry → Mem
at_rest pages next time mark table =
    record {
      pages = pages;
      next = record { 0 = next };
      time = record { 0 = time };
      mark = record { 0 = mark };
      table = table;
      resident = [];
      slot = Empty;
      touched = [];
    }

unfoldable pub with_meta : ℕ → Files → List ℕ → World
with_meta P f frames =
    let db = replayed P f in
    let table = full_table P f in
    record {
      files = record {
        log = header log_magic f.log;
        db = db;
        clog = record_all 8 0 (log_table P f.log) (settled 8 (open_clog f.clog));
      };
      frames = frames;
      mem =
          at_rest (db.len / P) (max 1 (max (stored_next (content db)) (next64 (largest_id table)))) (max (stored_time (content db)) (log_time P f.log))
          (stored_mark (content db)) table;
    }

unfoldable pub without_meta : ℕ → Files → List ℕ → World
without_meta P f frames =
    let db = replayed P f in
    record {
      files = record { log = header log_magic f.log; db = db; clog = header clog_magic f.clog };
      frames = frames;
      mem = at_rest (db.len / P) 1 (log_time P f.log) 0 (log_table P f.log);
    }

unfoldable pub opened_world : ℕ → Files → List ℕ → World
opened_world P f frames = cond (has_meta P (content (replayed P f))) (with_meta P f frames) (without_meta P f frames)

-- ---- what an opening gives

-- a refusal with 2 or 3 has laid the images
abbrev pub has_laid : ℕ → Bool
has_laid n = eqb n 2 || eqb n 3

unfoldable pub left_by : ℕ → ℕ → Files → Files
left_by P n f = cond (has_laid n) (with_db (replayed P f) f) f

-- a refused opening has no store: its files, and an empty memory
abbrev pub unopened : Files → List ℕ → World
unopened f frames = record { files = f; frames = frames; mem = at_rest 0 0 0 0 [] }

-- the number, the database's length after it, and the world
pub record Opening : Type 0 where
  pub number : ℕ
  pub db : ℕ
  pub world : World

-- an opening with the number n
abbrev pub opened_by : ℕ → ℕ → Files → List ℕ → Opening
opened_by P n f frames =
    let w = decided n (opened_world P f frames) (unopened (left_by P n f) frames) in
    record { number = n; db = w.files.db.len; world = w }

unfoldable pub opening : ℕ → Files → List ℕ → Opening
opening P f frames = opened_by P (open_no P f frames) f frames

-- ---- the same for the code's store

-- the number and the values of a verdict: the database's length, or why there is no store
abbrev pub verdict_told : Result ℕ Unopened → Told
verdict_told (Ok db) = record { number = 0; values = db ∷ [] }
verdict_told (Err (Refused r)) = record { number = number_of r; values = [] }
verdict_told (Err (Torn db)) = record { number = 2; values = db ∷ [] }
verdict_told (Err (Unknown db)) = record { number = 3; values = db ∷ [] }

-- the verdict, and the store; only an accepted opening has one
pub record Opened : Type 0 where
  pub verdict : Result ℕ Unopened
  pub store : Store

-- what a result tells: the length of an opened store's database; the same fixed value stands in the place of a store that there is not
abbrev pub opened_in : Result Store Unopened → Opened
opened_in (Ok s) = record { verdict = Ok s.lens.db; store = s }
opened_in (Err u) = record { verdict = Err u; store = no_store }

-- what comes out: the values that are told; the number, the store and every byte of the four buffers
abbrev pub opened_as : Opened → List ℕ → List ℕ → List ℕ → List ℕ → Given (List ℕ)
opened_as r log db clog frames =
    given (verdict_told r.verdict).values (record { number = (verdict_told r.verdict).number; store = r.store }) log db clog frames

-- an opening, so told
abbrev pub shown : Opening → Given (List ℕ)
shown o =
    record {
      value = cond (eqb o.number 0 || has_laid o.number) (o.db ∷ []) [];
      outcome = ending o.number (decided o.number (laid_store no_store o.world) no_store) o.world;
    }

-- what must come out of opening the files of these lengths in these buffers
unfoldable pub opened : ℕ → Lens → List ℕ → List ℕ → List ℕ → List ℕ → Given (List ℕ)
opened P lens log db clog frames = shown (opening P (files_of lens log db clog) frames)
