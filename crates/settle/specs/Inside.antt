-- The calls that end with page 0: what each leaves in the store before page 0 is made resident, and how it is made ready, in the code's terms. P is the page
-- size. Assumes nothing.
use Rattle.std.specs.Prelude.{ℕ, zero, suc, ◌+◌, max, min, List, cond, length, get_or}
use Rattle.fields.specs.declared.TransactionId.{TransactionId}
use Rattle.fields.specs.declared.CommitTime.{CommitTime}
use Rattle.meta.specs.declared.Counters.{Counters}
use Rattle.table.specs.declared.Table.{Table}
use Rattle.table.specs.Entries.{Inserted}
use Rattle.frames.specs.declared.Frames.{Frames}
use Rattle.frames.specs.Pages.{is_in, slot_of, bad_page, resident_of, seated}
use Rattle.world.specs.declared.Slot.TheVariants.{Empty}
use Rattle.world.specs.World.{files_of}
use Rattle.world.specs.Run.{decided}
use Rattle.picks.specs.declared.Picked.{Picked}
use Rattle.stores.specs.declared.Plan.{Plan}
use Rattle.stores.specs.Plans.{meant}
use Rattle.stores.specs.Room.{number_for}
use Rattle.form.specs.declared.Store.{Store}
use Rattle.ready.specs.declared.Ready.{Ready}
use Rattle.ready.specs.Ready.{idle, with_meta}

-- the counters that page 0 gets
abbrev pub counters_of : Store → Counters
counters_of s = record { next = s.next; time = s.time; mark = s.mark }

-- ---- before page 0 is made resident

-- the transaction's place emptied, with this page count, next commit time and table
unfoldable pub ended_store : Store → ℕ → CommitTime → Table → Store
ended_store s pages time t =
    record {
      lens = s.lens;
      pages = pages;
      next = s.next;
      time = time;
      mark = s.mark;
      table = t;
      frames = s.frames;
      held = record { slot = Empty; touched = record { pages = s.held.touched.pages; count = 0 } };
    }

-- another frozen mark
unfoldable pub marked_store : Store → TransactionId → Store
marked_store s v =
    record {
      lens = s.lens;
      pages = s.pages;
      next = s.next;
      time = s.time;
      mark = v;
      table = s.table;
      frames = s.frames;
      held = s.held;
    }

-- with another table
abbrev pub with_table : Store → Table → Store
with_table s t =
    record {
      lens = s.lens;
      pages = s.pages;
      next = s.next;
      time = s.time;
      mark = s.mark;
      table = t;
      frames = s.frames;
      held = s.held;
    }

-- a page count raised past the first i of the picked pages; there is none past 4,294,967,295
abbrev pub past : ℕ → ℕ → ℕ
past p n = cond (bad_page p) n (max n (p + 1))

unfoldable pub raised_to : Picked → ℕ → ℕ → ℕ
raised_to x zero n = n
raised_to x (suc i) n = past (get_or x.pages i 0) (raised_to x i n)

abbrev pub raised_by : Picked → ℕ → ℕ
raised_by x n = raised_to x (min x.n 64) n

-- ---- and after

-- the slot of a page's frame, or the next slot
unfoldable pub slot_for : ℕ → Frames → ℕ
slot_for p f = cond (is_in p (resident_of f)) (slot_of p (resident_of f)) f.count

-- with page 0 resident
unfoldable pub sealed_store : Store → Frames → Store
sealed_store u f =
    record {
      lens = u.lens;
      pages = max u.pages 1;
      next = u.next;
      time = u.time;
      mark = u.mark;
      table = u.table;
      frames = f;
      held = u.held;
    }

-- refused with a number that is not 0
abbrev pub unless : ℕ → Store → Ready → Ready
unless n s r = decided n r (idle n s)

-- a call on the store s that would leave u: refused by 4, 5 or 6 for its stores, by the table's number tn, by 8 for page 0's frame, or made ready
unfoldable pub sealed_as : ℕ → Store → Store → ℕ → Plan → Picked → List ℕ → List ℕ → List ℕ → List ℕ → Ready
sealed_as P s u tn plan back log db clog frames =
    let seat = seated 64 P s.frames (length frames) 0 in
    unless (number_for P (meant P frames plan) (files_of s.lens log db clog)) s
    (unless tn s (unless seat.number s (with_meta plan back (slot_for 0 s.frames) (sealed_store u seat.frames))))

-- one that would leave u with the table that t has, or is refused with t's number
abbrev pub sealed_by : ℕ → Store → Store → Inserted → Plan → Picked → List ℕ → List ℕ → List ℕ → List ℕ → Ready
sealed_by P s u t plan back log db clog frames = sealed_as P s (with_table u t.table) t.number plan back log db clog frames
