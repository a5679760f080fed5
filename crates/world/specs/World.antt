-- A store as lists: its three files, its frame buffer, and what it holds in memory. A file is a whole lent buffer and a length. Assumes nothing.
use Rattle.std.specs.Prelude.{ℕ, List}
use Rattle.fields.specs.declared.TransactionId.{TransactionId}
use Rattle.fields.specs.declared.CommitTime.{CommitTime}
use Rattle.fields.specs.Files.{File, file_of}
use Rattle.table.specs.declared.Entry.{Entry}
use Rattle.world.specs.declared.Slot.{Slot}
use Rattle.world.specs.declared.Lens.{Lens}

pub record Files : Type 0 where
  pub log : File
  pub db : File
  pub clog : File

-- the files that stand in three buffers, and their lengths
abbrev pub files_of : Lens → List ℕ → List ℕ → List ℕ → Files
files_of n log db clog = record { log = file_of log n.log; db = file_of db n.db; clog = file_of clog n.clog }

abbrev pub lens_of : Files → Lens
lens_of f = record { log = f.log.len; db = f.db.len; clog = f.clog.len }

-- page count, next id, next commit time, frozen mark, status table; the page number of each frame in use; the transaction's place, and its touched pages
pub record Mem : Type 0 where
  pub pages : ℕ
  pub next : TransactionId
  pub time : CommitTime
  pub mark : TransactionId
  pub table : List Entry
  pub resident : List ℕ
  pub slot : Slot
  pub touched : List ℕ

pub record World : Type 0 where
  pub files : Files
  pub frames : List ℕ
  pub mem : Mem

-- ---- a world with one part changed

abbrev pub with_mem : Mem → World → World
with_mem m w = record { files = w.files; frames = w.frames; mem = m }

abbrev pub with_counts : ℕ → TransactionId → CommitTime → TransactionId → Mem → Mem
with_counts pages next time mark m =
    record { pages = pages; next = next; time = time; mark = mark; table = m.table; resident = m.resident; slot = m.slot; touched = m.touched }

abbrev pub with_table : List Entry → Mem → Mem
with_table t m =
    record { pages = m.pages; next = m.next; time = m.time; mark = m.mark; table = t; resident = m.resident; slot = m.slot; touched = m.touched }

abbrev pub with_resident : List ℕ → Mem → Mem
with_resident ps m =
    record { pages = m.pages; next = m.next; time = m.time; mark = m.mark; table = m.table; resident = ps; slot = m.slot; touched = m.touched }

abbrev pub with_transaction : Slot → List ℕ → Mem → Mem
with_transaction s ps m =
    record { pages = m.pages; next = m.next; time = m.time; mark = m.mark; table = m.table; resident = m.resident; slot = s; touched = ps }
