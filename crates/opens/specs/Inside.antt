-- What the private functions of opening give: the clog, the counters and the store after an accepted opening, by what page 0 was found to hold after replay.
-- What the whole opening gives stands in the crate opening. P is the page size. Assumes nothing.
use Rattle.std.specs.Prelude.{◌≡◌, ℕ, ◌/◌, ◌≤◌, max, List, map, false, length, Option, Some, None}
use Rattle.fields.specs.Files.{File, room, header, unfit}
use Rattle.table.specs.declared.Entry.{Entry}
use Rattle.table.specs.declared.Table.{Table}
use Rattle.table.specs.Entries.{list_of, largest_id, largest_time, next64}
use Rattle.clog.specs.Slots.{clog_magic, open_clog, record_all, settled}
use Rattle.meta.specs.declared.Counters.{Counters}
use Rattle.frames.specs.Pages.{empty_frames, empty_touched}
use Rattle.world.specs.declared.Lens.{Lens}
use Rattle.world.specs.declared.Slot.TheVariants.{Empty}
use Rattle.world.specs.Refusals.{any_of}
use Rattle.form.specs.declared.Store.{Store}
use Rattle.opening.specs.Opening.{clog_table, past_clog}

-- what loading asks for: a clog that fits its buffer, which holds the header; at most 256 slots in use; room for the byte of every id of the log's table
abbrev pub Loadable : File → List Entry → Type 0
Loadable f logged =
    (unfit 1048576 (room f) f.len ≡ false) × (8 ≤ room f) × (length (clog_table f) ≤ 256) × (any_of (map (past_clog (room f)) logged) ≡ false)

-- with a meta page the clog is opened and loaded, and the log's statuses are recorded in it; else it is reset
abbrev pub clog_by : Option Counters → List Entry → File → File
clog_by (Some m) logged f = record_all 8 0 logged (settled 8 (open_clog f))
clog_by None logged f = header clog_magic f

-- the log's next commit time
abbrev pub time_by : Table → ℕ
time_by logged = next64 (largest_time (list_of logged))

-- the counters that page 0 and the two tables give
unfoldable pub meta_counters : Counters → Table → Table → Counters
meta_counters m logged full =
    record {
      next = record { 0 = max 1 (max m.next.0 (next64 (largest_id (list_of full)))) };
      time = record { 0 = max m.time.0 (time_by logged) };
      mark = m.mark;
    }

unfoldable pub plain_counters : Table → Counters
plain_counters logged = record { next = record { 0 = 1 }; time = record { 0 = time_by logged }; mark = record { 0 = 0 } }

-- no page resident, no transaction
unfoldable pub store_at_rest : ℕ → Lens → Counters → Table → Store
store_at_rest P lens c t =
    record {
      lens = lens;
      pages = lens.db / P;
      next = c.next;
      time = c.time;
      mark = c.mark;
      table = t;
      frames = empty_frames 64;
      held = record { slot = Empty; touched = empty_touched 64 };
    }

abbrev pub store_by : ℕ → Lens → Option Counters → Table → Table → Store
store_by P lens (Some m) logged full = store_at_rest P lens (meta_counters m logged full) full
store_by P lens None logged full = store_at_rest P lens (plain_counters logged) logged
