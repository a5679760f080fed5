-- A call made ready as a small value: its number, its stores, what it changes in the arrays, and the head after it but for the lengths of the files and for the counts
-- that the arrays give. Together with the arrays it is read as a call made ready on a store (crate ready). P is the page size. Assumes nothing.
use Rattle.std.specs.Prelude.{ℕ, List, [], Bool, true, false, cond, length, Result, Ok, Err}
use Rattle.fields.specs.declared.refusal.Refusal.{Refusal}
use Rattle.fields.specs.Refusals.{number_of}
use Rattle.fields.specs.Answers.{no_id, no_time}
use Rattle.rows.specs.Rows.{Rowed, rowed_as, set_row}
use Rattle.frames.specs.Pages.{Seated, seated_as, seated, Marked, marked_as, marked}
use Rattle.seats.specs.Seats.{frames_in, touched_in}
use Rattle.world.specs.declared.Lens.{Lens}
use Rattle.picks.specs.declared.Picked.{Picked}
use Rattle.picks.specs.Picks.{picked_of}
use Rattle.stores.specs.declared.Plan.{Plan}
use Rattle.stores.specs.declared.Kind.TheVariants.{Nothing}
use Rattle.stores.specs.Plans.{steps_of, meant}
use Rattle.stores.specs.Room.{Carried}
use Rattle.stores.specs.Told.{told_in}
use Rattle.plans.specs.Planned.{plan_of, no_counters}
use Rattle.lent.specs.declared.Head.{Head}
use Rattle.lent.specs.Lent.{Lent, lent, store_of, Left, leaving}
use Rattle.ready.specs.declared.Ready.{Ready}
use Rattle.ready.specs.Ready.{Prepared, readied, files_to, carried_out, Counted, ToldCall}
use Rattle.acts.specs.declared.Change.{Change}
use Rattle.acts.specs.declared.Change.TheVariants.{Same, Set, Touch}
use Rattle.acts.specs.declared.Made.{Made}

-- ---- what is changed in the arrays

-- the rows, of which n are held, by a change
unfoldable pub rows_after : List (List ℕ) → ℕ → Change → Rowed
rows_after rows n Same = rowed_as 0 n rows
rows_after rows n (Set id status) = set_row 256 rows n (record { id = id; status = status })
rows_after rows n (Touch p) = rowed_as 0 n rows

-- the touched pages by a change
unfoldable pub touched_after : List ℕ → ℕ → Change → Marked
touched_after pages n Same = marked_as 0 (touched_in pages n)
touched_after pages n (Set id status) = marked_as 0 (touched_in pages n)
touched_after pages n (Touch p) = marked 64 (touched_in pages n) p

-- the resident pages, with page 0 where its frame is written
unfoldable pub resident_after : ℕ → ℕ → List ℕ → ℕ → Bool → Seated
resident_after P size pages n meta = cond meta (seated 64 P (frames_in pages n) size 0) (seated_as 0 (frames_in pages n))

unfoldable pub counted_head : ℕ → ℕ → ℕ → Head → Head
counted_head entries resident touched h =
    record {
      lens = h.lens;
      pages = h.pages;
      next = h.next;
      time = h.time;
      mark = h.mark;
      held = h.held;
      id = h.id;
      entries = entries;
      resident = resident;
      touched = touched;
    }

unfoldable pub lens_head : Lens → Head → Head
lens_head n h =
    record {
      lens = n;
      pages = h.pages;
      next = h.next;
      time = h.time;
      mark = h.mark;
      held = h.held;
      id = h.id;
      entries = h.entries;
      resident = h.resident;
      touched = h.touched;
    }

-- the store after the call, where it stands, but for the lengths of the files; size is that of the frame buffer
unfoldable pub after_in : ℕ → ℕ → Made → List (List ℕ) → List ℕ → List ℕ → Lent
after_in P size m rows resident touched =
    let t = rows_after rows m.head.entries m.change in
    let f = resident_after P size resident m.head.resident m.meta in
    let x = touched_after touched m.head.touched m.change in
    lent (counted_head t.count f.frames.count x.touched.count m.head) t.rows f.frames.pages x.touched.pages

-- read as a call made ready on a store
unfoldable pub ready_in : ℕ → ℕ → Made → List (List ℕ) → List ℕ → List ℕ → Ready
ready_in P size m rows resident touched =
    record {
      number = m.number;
      plan = m.plan;
      back = m.back;
      meta = m.meta;
      slot = m.slot;
      store = store_of (after_in P size m rows resident touched);
    }

-- ---- the kinds of calls made ready

-- one with no stores: refused, or with nothing to do but for a change
unfoldable pub bare_made : ℕ → Change → Head → Made
bare_made n x h =
    record {
      number = n;
      plan = plan_of Nothing no_id no_time [] no_counters;
      back = picked_of 64 [];
      meta = false;
      slot = 0;
      change = x;
      head = h;
    }

-- accepted, with stores: one that leaves the frames as they are, and one that gives pages back and writes page 0
unfoldable pub plain_made : Plan → Change → Head → Made
plain_made plan x h = record { number = 0; plan = plan; back = picked_of 64 []; meta = false; slot = 0; change = x; head = h }

unfoldable pub meta_made : Plan → Picked → ℕ → Change → Head → Made
meta_made plan back slot x h = record { number = 0; plan = plan; back = back; meta = true; slot = slot; change = x; head = h }

-- one that was not refused has number 0, whatever its value says
abbrev pub accepted : Made → Made
accepted m = record { number = 0; plan = m.plan; back = m.back; meta = m.meta; slot = m.slot; change = m.change; head = m.head }

-- what making a call on a store with the head h ready answers
abbrev pub made_of : Head → Result Made Refusal → Made
made_of h (Ok m) = accepted m
made_of h (Err r) = bare_made (number_of r) Same h

-- ---- carried out, cut, counted, told

-- what was made ready, and the store after it where it stands
pub record Readied : Type 0 where
  pub ready : Prepared
  pub after : Lent

abbrev pub readied_as : Prepared → Lent → Readied
readied_as p s = record { ready = p; after = s }

unfoldable pub made_in : ℕ → Made → List (List ℕ) → List ℕ → List ℕ → List ℕ → List ℕ → List ℕ → List ℕ → Readied
made_in P m rows resident touched log db clog frames =
    readied_as (readied P (ready_in P (length frames) m rows resident touched) log db clog frames) (after_in P (length frames) m rows resident touched)

abbrev pub lent_with : Lens → Lent → Lent
lent_with n s = lent (lens_head n s.head) s.rows s.resident s.touched

unfoldable pub left_by : ℕ → Readied → List ℕ → List ℕ → List ℕ → Left
left_by P x log db clog =
    let o = carried_out P x.ready log db clog in
    leaving o.number (lent_with o.store.lens x.after) o.log o.db o.clog o.frames

unfoldable pub cut_made : ℕ → ℕ → Made → List ℕ → List ℕ → List ℕ → List ℕ → Carried
cut_made P k m log db clog frames =
    record { number = m.number; files = files_to P k (meant P frames m.plan) m.head.lens log db clog }

unfoldable pub counted_made : Made → Counted
counted_made m = record { number = m.number; stores = length (steps_of m.plan) }

unfoldable pub told_made : ℕ → ℕ → Made → ToldCall
told_made P k m = record { number = m.number; values = told_in P m.plan k m.head.lens }
