-- From the code's store to the lists that the calls are defined over, and back; and what comes out of a call on a store. P is the page size.
-- Each array of a store is read as the list of its first count elements. A changed store is its lists laid in front of the old arrays: what stands past a count
-- stays. A refusal hands back the old store and changes no buffer. Assumes nothing.
use Rattle.std.specs.Prelude.{ℕ, ◌-◌, List, ◌++◌, length, take, replicate, Result, Ok, Err}
use Rattle.fields.specs.declared.refusal.Refusal.{Refusal}
use Rattle.fields.specs.Refusals.{number_of}
use Rattle.fields.specs.Answers.{no_id, no_time}
use Rattle.table.specs.declared.Entry.{Entry}
use Rattle.table.specs.declared.Table.{Table}
use Rattle.table.specs.Entries.{blank, empty_table, laid}
use Rattle.frames.specs.declared.Frames.{Frames}
use Rattle.frames.specs.declared.Touched.{Touched}
use Rattle.frames.specs.declared.Transaction.{Transaction}
use Rattle.frames.specs.Pages.{laid_frames, laid_touched, empty_frames, empty_touched}
use Rattle.world.specs.declared.Slot.TheVariants.{Empty}
use Rattle.world.specs.World.{Mem, World, files_of, lens_of}
use Rattle.world.specs.Calls.{Call, Install}
use Rattle.world.specs.Refusals.{refuses}
use Rattle.world.specs.Run.{done, decided, call}
use Rattle.form.specs.declared.Held.{Held}
use Rattle.form.specs.declared.Store.{Store}

-- ---- a store and its world

-- the first n of an array; a count past the array's end shows as a list that long, so that a list's length is always its count
unfoldable pub first_of : {A : Type 0} → A → ℕ → List A → List A
first_of d n xs = take n xs ++ replicate (n - length xs) d

abbrev pub entries_of : Table → List Entry
entries_of t = first_of blank t.count t.entries

abbrev pub resident_of : Frames → List ℕ
resident_of f = first_of 0 f.count f.pages

abbrev pub touched_of : Touched → List ℕ
touched_of t = first_of 0 t.count t.pages

-- the store's memory, and with the four buffers its world
unfoldable pub mem_of : Store → Mem
mem_of s =
    record {
      pages = s.pages;
      next = s.next;
      time = s.time;
      mark = s.mark;
      table = entries_of s.table;
      resident = resident_of s.frames;
      slot = s.held.slot;
      touched = touched_of s.held.touched;
    }

unfoldable pub world_of : Store → List ℕ → List ℕ → List ℕ → List ℕ → World
world_of s log db clog frames = record { files = files_of s.lens log db clog; frames = frames; mem = mem_of s }

-- a store with the lengths and the memory of a world, the lists laid over its arrays
unfoldable pub laid_store : Store → World → Store
laid_store s w =
    record {
      lens = lens_of w.files;
      pages = w.mem.pages;
      next = w.mem.next;
      time = w.mem.time;
      mark = w.mem.mark;
      table = laid s.table w.mem.table;
      frames = laid_frames s.frames w.mem.resident;
      held = record { slot = w.mem.slot; touched = laid_touched s.held.touched w.mem.touched };
    }

-- ---- no transaction, no store

abbrev pub no_held : Held
no_held = record { slot = Empty; touched = empty_touched 64 }

-- what stands in the place of a store that there is not, and under the lists of one that was opened
unfoldable pub no_store : Store
no_store =
    record {
      lens = record { log = 0; db = 0; clog = 0 };
      pages = 0;
      next = no_id;
      time = no_time;
      mark = no_id;
      table = empty_table 256;
      frames = empty_frames 64;
      held = no_held;
    }

-- ---- what a call answers: its number, and the store after it; a refused call leaves the store s

pub record Changed : Type 0 where
  pub number : ℕ
  pub store : Store

abbrev pub changed : Store → Result Store Refusal → Changed
changed s (Ok u) = record { number = 0; store = u }
changed s (Err r) = record { number = number_of r; store = s }

-- ---- what comes out of a call: its number, the store, and every byte of the four buffers

pub record Outcome : Type 0 where
  pub number : ℕ
  pub store : Store
  pub log : List ℕ
  pub db : List ℕ
  pub clog : List ℕ
  pub frames : List ℕ

abbrev pub outcome : Changed → List ℕ → List ℕ → List ℕ → List ℕ → Outcome
outcome r log db clog frames = record { number = r.number; store = r.store; log = log; db = db; clog = clog; frames = frames }

-- a number, a store, and the buffers of a world
abbrev pub ending : ℕ → Store → World → Outcome
ending n s w =
    outcome (record { number = n; store = s }) w.files.log.bytes w.files.db.bytes w.files.clog.bytes w.frames

-- a call on a store and its buffers; an accepted one lays its lists over the arrays of b, a refused one leaves the store s
unfoldable pub called_on : ℕ → Call → Store → Store → List ℕ → List ℕ → List ℕ → List ℕ → Outcome
called_on P c b s log db clog frames =
    let w = world_of s log db clog frames in
    let n = refuses P c w in
    ending n (decided n (laid_store b (done P c w)) s) (call P c w)

-- a call that lays its lists over the store's own arrays
abbrev pub called : ℕ → Call → Store → List ℕ → List ℕ → List ℕ → List ℕ → Outcome
called P c s log db clog frames = called_on P c s s log db clog frames

-- ---- a transaction that is handed in: its touched pages keep their array

unfoldable pub with_array : Store → Touched → Store
with_array s t =
    record {
      lens = s.lens;
      pages = s.pages;
      next = s.next;
      time = s.time;
      mark = s.mark;
      table = s.table;
      frames = s.frames;
      held = record { slot = s.held.slot; touched = t };
    }

abbrev pub installed : Transaction → Call
installed x = Install x.id (touched_of x.touched)

-- ---- calls that hand something out

pub record Given (A : Type 0) : Type 0 where
  pub value : A
  pub outcome : Outcome

abbrev pub given : {A : Type 0} → A → Changed → List ℕ → List ℕ → List ℕ → List ℕ → Given A
given a r log db clog frames = record { value = a; outcome = outcome r log db clog frames }

-- what a call hands out beside the store: b where it is refused
abbrev pub value_in : {A : Type 0} → A → Result (A × Store) Refusal → A
value_in b (Ok x) = x.0
value_in b (Err r) = b

abbrev pub changed_in : {A : Type 0} → Store → Result (A × Store) Refusal → Changed
changed_in s (Ok x) = record { number = 0; store = x.1 }
changed_in s (Err r) = record { number = number_of r; store = s }

-- a where the call is accepted, else b
abbrev pub handed : {A : Type 0} → A → A → Outcome → Given A
handed a b o = record { value = decided o.number a b; outcome = o }
