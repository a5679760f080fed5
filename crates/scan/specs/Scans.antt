-- One pass over a log's records that changes nothing, before an opening changes anything. Found are: whether an image lies past the database's buffer (5),
-- whether an id's byte lies past the clog's buffer (6), the statuses that the records set, of each id the last one, and how the log ends. All records before the
-- first bad one are tested for 5 and 6, also where the ids are already more than 256. P is the page size. Assumes nothing.
use Rattle.std.specs.Prelude.{ℕ, [], map, Bool, false, cond, Result}
use Rattle.fields.specs.Files.{File, room, unfit}
use Rattle.fields.specs.declared.refusal.Refusal.{Refusal}
use Rattle.fields.specs.Refusals.{number_in}
use Rattle.wal.specs.declared.Read.{Read}
use Rattle.wal.specs.declared.Read.TheVariants.{Found, End, Torn, Unknown, Outside}
use Rattle.table.specs.declared.Table.{Table}
use Rattle.table.specs.Entries.{Inserted, inserted_of, empty_table, insert_all, bounded}
use Rattle.world.specs.Refusals.{any_of}
use Rattle.opening.specs.Opening.{records, end_no, statuses, past_db, past_clog}
use Rattle.scan.specs.declared.Findings.{Findings}

-- ---- what is found: the statuses that are set, 7 and no entry where they are of more than 256 ids; the number of the ending

pub record Scanned : Type 0 where
  pub images : Bool
  pub ids : Bool
  pub held : Inserted
  pub ending : ℕ

-- the statuses that a result holds, no entry where there are too many
abbrev pub held_of : Result Table Refusal → Inserted
held_of r = inserted_of (empty_table 256) r

abbrev pub scanned_of : Findings → Scanned
scanned_of s = record { images = s.images; ids = s.ids; held = held_of s.held; ending = number_in s.ending }

-- ---- the whole pass

-- nothing found; the number is that of the ending
unfoldable pub nothing : ℕ → Scanned
nothing n = record { images = false; ids = false; held = record { number = 0; table = empty_table 256 }; ending = n }

unfoldable pub found : ℕ → ℕ → ℕ → File → Scanned
found P db clog log =
    record {
      images = any_of (map (past_db P db) (records P log));
      ids = any_of (map (past_clog clog) (statuses (records P log)));
      held = bounded 256 (empty_table 256) (insert_all (statuses (records P log)) []);
      ending = end_no P log;
    }

-- db and clog are the sizes of those buffers. A log whose buffer is over its limit, or whose length is over its buffer, is not read: ending 1
unfoldable pub scanned : ℕ → ℕ → ℕ → File → Scanned
scanned P db clog log = cond (unfit 16777216 (room log) log.len) (nothing 1) (found P db clog log)

-- ---- record by record

-- where to read next: after the record, or the log's end where none was read
abbrev pub next_of : ℕ → Read → ℕ
next_of len (Found r next) = next
next_of len End = len
next_of len (Torn missing) = len
next_of len Unknown = len
next_of len Outside = len
