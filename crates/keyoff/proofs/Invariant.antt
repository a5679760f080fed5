-- What holds of the files, the table and the mark of a store between calls. The frames, the resident and touched pages, the transaction and the counters do
-- not occur in it. P is the page size. Assumes nothing.
--
-- The log is its magic and whole records, among them no commit and no image of page 0. Each image lies inside the database, and the last image of a page is the
-- database's page: replay alters no byte. Every id in the log or with a slot that is not 0 is in the table. At or above the mark the log's last word on an id,
-- where it has one, is the table's, and the slot loads as the table's status does. Page 0 is whole, has the magic, version 0 or 2, and the store's mark.
use mathlib.Core.Path.{◌≡◌}
use mathlib.Core.List.{List, map}
use mathlib.Core.Bool.{true, false}
use Prim.Native.Nat.{ℕ, ◌+◌, ◌/◌, ◌^◌, ◌≤◌, ◌<◌}
use lib.ListN.{length}
use Rattle.fields.specs.declared.CommitTime.{CommitTime}
use Rattle.fields.specs.Files.{content, room}
use Rattle.table.specs.declared.Status.{Status}
use Rattle.table.specs.declared.Status.TheVariants.{Committed}
use Rattle.table.specs.declared.Entry.{Entry}
use Rattle.std.specs.Prelude.{Option, Some, None}
use Rattle.table.specs.Entries.{ascending, status_of}
use Rattle.clog.specs.Slots.{slot_of, valid_clog}
use Rattle.clog.proofs.TableLaws.{known_as}
use Rattle.world.specs.World.{Files, World}
use Rattle.world.specs.Refusals.{any_of}
use Rattle.opening.specs.Opening.{records, statuses, past_clog}
use Rattle.opening.proofs.Tables.{last_word}
use Rattle.opening.proofs.LogFiles.{Reads}
use Rattle.keyoff.specs.KeyOff.{kept}
use Rattle.opening.proofs.Replays.{Agrees}
use Rattle.keyoff.proofs.Images.{AllRest}
use Rattle.keyoff.proofs.Page.{Stands}

-- The statuses, id by id: L the log's last word, C what the clog's slot loads as, T the table in memory. size is that of the clog's buffer
pub record Marks (L C T : ℕ → Option Status) (mark size : ℕ) : Type 0 where
  pub untimed : (t : ℕ) (u : CommitTime) → L t ≡ Some (Committed u) → ⊥
  pub logged : (t : ℕ) (s : Status) → L t ≡ Some s → T t ≡ None → ⊥
  pub slotted : (t : ℕ) → T t ≡ None → C t ≡ None
  pub last : (t : ℕ) → mark ≤ t → (s : Status) → L t ≡ Some s → T t ≡ Some s
  pub slots : (t : ℕ) → mark ≤ t → C t ≡ kept (T t)
  pub fits : (t : ℕ) (s : Status) → T t ≡ Some s → 8 + t / 4 < size

-- frames is the size of the frame buffer
pub record Inv (P : ℕ) (f : Files) (frames : ℕ) (table : List Entry) (mark : ℕ) : Type 0 where
  -- the buffers, and the lengths within them
  pub log-size : room f.log ≤ 16777216
  pub log-len : f.log.len ≤ room f.log
  pub db-size : room f.db ≤ 16777216
  pub db-len : f.db.len ≤ room f.db
  pub clog-size : room f.clog ≤ 1048576
  pub clog-len : f.clog.len ≤ room f.clog
  pub one-frame : P ≤ frames
  -- the log: whole records, images at rest with which the database agrees, ids that fit the clog
  pub reads : Reads P f.log
  pub rest : AllRest P f.db.len (records P f.log)
  pub agrees : Agrees P (records P f.log) f.db
  pub ids : any_of (map (past_clog (room f.clog)) (statuses (records P f.log))) ≡ false
  -- the clog, and the statuses
  pub valid : valid_clog f.clog ≡ true
  pub marks : Marks (λ t. last_word t (records P f.log)) (λ t. known_as (slot_of 8 (content f.clog) t)) (λ t. status_of t table) mark (room f.clog)
  pub sorted : ascending table ≡ true
  pub few : length table ≤ 256
  -- page 0
  pub page : Stands P (content f.db) mark
  pub small : mark < 2 ^ 64

-- of a whole world
abbrev pub Kept : ℕ → World → Type 0
Kept P w = Inv P w.files (length w.frames) w.mem.table w.mem.mark.0
