-- Key-off, key-on: the next opening finds what the store held. P is the page size. The words, and where each of them stands below:
--
--   the store was opened with a meta page of version 0 or 2 standing after replay     OpenedWithMeta
--   only its own calls touched its buffers since, each was given the store the one before handed back and ran to its end
--                                                                                     `run` of any list of calls, refused ones too
--   none flushed page 0 outside a transaction                                         NoZeroFlush
--   then opening those files with the same buffers is accepted                        Reopens, accepted
--   every id at or above the frozen mark has the status held, Active become Aborted and commit times 0; no other such id appears
--                                                                                     SameStatuses
--   the mark is the same, opening alters no byte of the database file                 Reopens, mark and database
--   the next id is above every id in the table                                        NextAbove
--
-- Two more premises are what types say in the code: bytes are below 256 (BytesIn), a mark that is handed in is a 64-bit number (Typed).
-- Calls are values, so installing and uninstalling take any transaction. The table of the last line is that of the store that is opened again: in the old
-- one an id below the mark may lie above the next id that page 0 holds, and the clog has forgotten it. Assumes nothing.
use Rattle.std.specs.Prelude.{ℕ, ◌^◌, ◌≤◌, ◌<◌, ◌≡◌, List, [], ◌∷◌, true}
use Rattle.fields.specs.declared.TransactionId.{TransactionId}
use Rattle.fields.specs.Bytes.{Bytes}
use Rattle.fields.specs.Files.{content}
use Rattle.table.specs.declared.Status.{Status}
use Rattle.table.specs.declared.Status.TheVariants.{Active, Committed, Aborted}
use Rattle.std.specs.Prelude.{Option, Some, None}
use Rattle.table.specs.Entries.{status_of}
use Rattle.meta.specs.Page.{has_meta, version, good_version}
use Rattle.world.specs.declared.Slot.TheVariants.{Empty}
use Rattle.world.specs.World.{Files, Mem, World}
use Rattle.world.specs.Calls.{Call, Flush, Advance}
use Rattle.world.specs.Refusals.{refuses}
use Rattle.world.specs.Run.{call, run}
use Rattle.opening.specs.Opening.{replayed, Opening, opening}

-- ---- premises

-- the files were opened, o is what came of it, and after replay page 0 is whole, has the magic, and version 0 or 2
pub record OpenedWithMeta (P : ℕ) (f : Files) (o : Opening) : Type 0 where
  pub accepted : o.number ≡ 0
  pub meta : has_meta P (content (replayed P f)) ≡ true
  pub version : good_version (version (content (replayed P f))) ≡ true

-- a flush of page 0 with no transaction installed, that is not refused
pub record ZeroFlush (P : ℕ) (c : Call) (w : World) : Type 0 where
  pub asked : c ≡ Flush 0
  pub outside : w.mem.slot ≡ Empty
  pub accepted : refuses P c w ≡ 0

-- no call of a run is one, each seen in the world that it finds
abbrev pub NoZeroFlush : ℕ → List Call → World → Type 0
NoZeroFlush P [] w = Unit {0}
NoZeroFlush P (c ∷ cs) w = (ZeroFlush P c w → ⊥) × NoZeroFlush P cs (call P c w)

-- what types say: log and database hold bytes, and a mark is a 64-bit number
abbrev pub BytesIn : Files → Type 0
BytesIn f = Bytes (content f.log) × Bytes (content f.db)

abbrev pub Typed : Call → Type 0
Typed c = (v : TransactionId) → c ≡ Advance v → v.0 < 2 ^ 64

abbrev pub AllTyped : List Call → Type 0
AllTyped [] = Unit {0}
AllTyped (c ∷ cs) = Typed c × AllTyped cs

-- ---- conclusions

-- the status held, Active become Aborted and commit times 0; an id that is not held stays so
abbrev pub kept : Option Status → Option Status
kept None = None
kept (Some Active) = Some Aborted
kept (Some (Committed t)) = Some (Committed (record { 0 = 0 }))
kept (Some Aborted) = Some Aborted

-- of the memory old, and new after the next opening: every id at or above the mark
abbrev pub SameStatuses : Mem → Mem → Type 0
SameStatuses old new = (t : ℕ) → old.mark.0 ≤ t → status_of t new.table ≡ kept (status_of t old.table)

-- every id in the table is below the next one
abbrev pub NextAbove : Mem → Type 0
NextAbove m = (t : ℕ) (s : Status) → status_of t m.table ≡ Some s → t < m.next.0

-- opening the files of w again with the same buffers
abbrev pub reopened : ℕ → World → World
reopened P w = (opening P w.files w.frames).world

pub record Reopens (P : ℕ) (w : World) : Type 0 where
  pub accepted : (opening P w.files w.frames).number ≡ 0
  pub statuses : SameStatuses w.mem (reopened P w).mem
  pub mark : (reopened P w).mem.mark ≡ w.mem.mark
  pub database : (reopened P w).files.db ≡ w.files.db
  pub next : NextAbove (reopened P w).mem

-- ---- the demand

abbrev pub KeyOff : ℕ → Type 0
KeyOff P =
    (f : Files) (frames : List ℕ) (cs : List Call) → BytesIn f → AllTyped cs → OpenedWithMeta P f (opening P f frames) →
    NoZeroFlush P cs (opening P f frames).world → Reopens P (run P cs (opening P f frames).world)
