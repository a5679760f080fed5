-- The calls that end with page 0, on a store that stands where it is lent: the head that each leaves before page 0 is made resident, and how it is made ready, in the
-- code's terms. P is the page size. Assumes nothing.
use Rattle.std.specs.Prelude.{ℕ, max, List, [], length}
use Rattle.fields.specs.Refusals.{number_in}
use Rattle.fields.specs.Answers.{no_id, no_time}
use Rattle.fields.specs.declared.TransactionId.{TransactionId}
use Rattle.fields.specs.declared.CommitTime.{CommitTime}
use Rattle.meta.specs.declared.Counters.{Counters}
use Rattle.table.specs.declared.Status.TheVariants.{Active, Committed, Aborted}
use Rattle.rows.specs.Rows.{set_row}
use Rattle.frames.specs.Pages.{seated}
use Rattle.seats.specs.Seats.{frames_in}
use Rattle.world.specs.World.{files_of}
use Rattle.world.specs.Calls.{next_time}
use Rattle.world.specs.Run.{decided}
use Rattle.picks.specs.declared.Picked.{Picked}
use Rattle.picks.specs.declared.Which.TheVariants.{All, Data, Catalog}
use Rattle.picks.specs.Picks.{picked_of}
use Rattle.stores.specs.declared.Plan.{Plan}
use Rattle.stores.specs.declared.Kind.TheVariants as kind
use Rattle.stores.specs.Plans.{meant}
use Rattle.stores.specs.Room.{number_for}
use Rattle.plans.specs.Planned.{plan_of, timed, marked}
use Rattle.gathers.specs.Gathered.{gathered}
use Rattle.settle.specs.Inside.{raised_by, slot_for}
use Rattle.lent.specs.declared.Head.{Head}
use Rattle.acts.specs.declared.Change.{Change}
use Rattle.acts.specs.declared.Change.TheVariants.{Same, Set}
use Rattle.acts.specs.declared.Made.{Made}
use Rattle.acts.specs.Made.{bare_made, meta_made}
use Rattle.ends.specs.declared.Ending as code

-- the counters that page 0 gets
abbrev pub counters_in : Head → Counters
counters_in h = record { next = h.next; time = h.time; mark = h.mark }

-- what such a call would do and leave, but for page 0: the head, the number that the table gives, the change, the stores, and the pages that get the file's bytes back
pub record Ending : Type 0 where
  pub head : Head
  pub full : ℕ
  pub change : Change
  pub plan : Plan
  pub back : Picked

abbrev pub ending_of : code.Ending → Ending
ending_of x = record { head = x.head; full = number_in x.full; change = x.change; plan = x.plan; back = x.back }

-- ---- before page 0 is made resident

-- the transaction's place emptied, with this page count and next commit time
unfoldable pub ended_head : Head → ℕ → CommitTime → Head
ended_head h pages time =
    record {
      lens = h.lens;
      pages = pages;
      next = h.next;
      time = time;
      mark = h.mark;
      held = 0;
      id = no_id;
      entries = h.entries;
      resident = h.resident;
      touched = 0;
    }

-- another frozen mark
unfoldable pub marked_head : Head → TransactionId → Head
marked_head h v =
    record {
      lens = h.lens;
      pages = h.pages;
      next = h.next;
      time = h.time;
      mark = v;
      held = h.held;
      id = h.id;
      entries = h.entries;
      resident = h.resident;
      touched = h.touched;
    }

-- what each call would do and leave

unfoldable pub advance_ending : Head → TransactionId → Ending
advance_ending h v =
    record {
      head = marked_head h v;
      full = 0;
      change = Same;
      plan = plan_of kind.Advance no_id no_time [] (marked v (counters_in h));
      back = picked_of 64 [];
    }

-- the number that the table gives is the same whatever the status
unfoldable pub commit_ending : Head → List (List ℕ) → List ℕ → List ℕ → Ending
commit_ending h rows resident touched =
    record {
      head = ended_head h h.pages (next_time h.time);
      full = (set_row 256 rows h.entries (record { id = h.id; status = Active })).number;
      change = Set h.id (Committed h.time);
      plan = plan_of kind.Commit h.id h.time (gathered All [] touched h.touched resident h.resident) (timed (counters_in h));
      back = picked_of 64 [];
    }

unfoldable pub rollback_ending : List ℕ → Head → List (List ℕ) → List ℕ → List ℕ → Ending
rollback_ending list h rows resident touched =
    let back = picked_of 64 (gathered Catalog list touched h.touched resident h.resident) in
    record {
      head = ended_head h (raised_by back h.pages) h.time;
      full = (set_row 256 rows h.entries (record { id = h.id; status = Active })).number;
      change = Set h.id Aborted;
      plan = plan_of kind.Rollback h.id no_time (gathered Data list touched h.touched resident h.resident) (counters_in h);
      back = back;
    }

-- ---- and after

unfoldable pub sealed_head : Head → Head
sealed_head h =
    record {
      lens = h.lens;
      pages = max h.pages 1;
      next = h.next;
      time = h.time;
      mark = h.mark;
      held = h.held;
      id = h.id;
      entries = h.entries;
      resident = h.resident;
      touched = h.touched;
    }

-- refused with a number that is not 0
abbrev pub unless : ℕ → Head → Made → Made
unless n h m = decided n m (bare_made n Same h)

-- a call on a store with the head h: refused by 4, 5 or 6 for its stores, by the number that the table gives, by 8 for page 0's frame, or made ready
unfoldable pub sealed_made : ℕ → Head → List ℕ → Ending → List ℕ → List ℕ → List ℕ → List ℕ → Made
sealed_made P h resident x log db clog frames =
    let f = frames_in resident h.resident in
    unless (number_for P (meant P frames x.plan) (files_of h.lens log db clog)) h
    (unless x.full h (unless (seated 64 P f (length frames) 0).number h (meta_made x.plan x.back (slot_for 0 f) x.change (sealed_head x.head))))
