-- A call, made ready: its number, its stores, and what it leaves in memory and in the frame buffer; then carried out, cut at a store, counted or told. A refused
-- call is made ready as one with no stores that leaves everything as it was. P is the page size. Assumes nothing.
use Rattle.std.specs.Prelude.{ℕ, zero, suc, min, List, [], cond, true, false, length, get_or, Option, Result, Ok, Err}
use Rattle.fields.specs.declared.refusal.Refusal.{Refusal}
use Rattle.fields.specs.Refusals.{number_of}
use Rattle.fields.specs.Answers.{no_id, no_time}
use Rattle.fields.specs.Files.{File}
use Rattle.meta.specs.declared.Counters.{Counters}
use Rattle.meta.specs.Page.{meta_page}
use Rattle.frames.specs.Copies.{page_of, with_frame}
use Rattle.world.specs.declared.Lens.{Lens}
use Rattle.world.specs.World.{Files, files_of, lens_of}
use Rattle.world.specs.Steps.{Step}
use Rattle.world.specs.Calls.{Call}
use Rattle.world.specs.Refusals.{refuses}
use Rattle.world.specs.Run.{call_to, count, tellings}
use Rattle.picks.specs.declared.Picked.{Picked}
use Rattle.picks.specs.Picks.{picked_of}
use Rattle.stores.specs.declared.Plan.{Plan}
use Rattle.stores.specs.declared.Kind.TheVariants.{Nothing}
use Rattle.stores.specs.declared.Telling.{Telling}
use Rattle.stores.specs.Plans.{steps_of, meant}
use Rattle.stores.specs.Room.{Carried, Cut, carried}
use Rattle.stores.specs.Told.{telling_told, told_at, told_in}
use Rattle.plans.specs.Planned.{plan_of, no_counters}
use Rattle.form.specs.declared.Store.{Store}
use Rattle.form.specs.Store.{world_of, Changed, Outcome, outcome}
use Rattle.ready.specs.declared.Ready.{Ready}
use Rattle.ready.specs.declared.Numbered.{Numbered}

-- ---- made ready

-- the number; the stores; the store after the call but for the lengths of the files; the frame buffer after it
pub record Prepared : Type 0 where
  pub number : ℕ
  pub steps : List Step
  pub store : Store
  pub frames : List ℕ

abbrev pub prepared : ℕ → List Step → Store → List ℕ → Prepared
prepared n ss s frames = record { number = n; steps = ss; store = s; frames = frames }

-- ---- as a value of the code, on these buffers

abbrev pub meta_of : ℕ → Counters → List ℕ
meta_of P m = meta_page P m.next.0 m.time.0 m.mark.0

-- the first i of the picked pages have the bytes of the file db in their frames
unfoldable pub refill_to : ℕ → File → Picked → ℕ → List ℕ → List ℕ
refill_to P db x zero frames = frames
refill_to P db x (suc i) frames = with_frame P (refill_to P db x i frames) (get_or x.slots i 0) (page_of P db (get_or x.pages i 0))

abbrev pub refill : ℕ → File → Picked → List ℕ → List ℕ
refill P db x frames = refill_to P db x (min x.n 64) frames

-- the frames after the stores, which leave the file db: picked pages get its bytes back, then page 0 the counters
unfoldable pub framed : ℕ → File → Ready → List ℕ → List ℕ
framed P db r frames =
    let b = refill P db r.back frames in
    cond r.meta (with_frame P b r.slot (meta_of P r.plan.meta)) b

-- the files with the first k of some stores carried out
abbrev pub files_to : ℕ → ℕ → List Step → Lens → List ℕ → List ℕ → List ℕ → Files
files_to P k ss n log db clog = (carried P ss k (files_of n log db clog)).files

unfoldable pub readied : ℕ → Ready → List ℕ → List ℕ → List ℕ → List ℕ → Prepared
readied P r log db clog frames =
    let ss = meant P frames r.plan in
    prepared r.number ss r.store (framed P (files_to P (length ss) ss r.store.lens log db clog).db r frames)

-- a call with no stores
unfoldable pub idle : ℕ → Store → Ready
idle n s =
    record { number = n; plan = plan_of Nothing no_id no_time [] no_counters; back = picked_of 64 []; meta = false; slot = 0; store = s }

-- an accepted call with stores: one that leaves the frames as they are, and one that gives pages back and writes page 0
unfoldable pub plain : Plan → Store → Ready
plain plan u = record { number = 0; plan = plan; back = picked_of 64 []; meta = false; slot = 0; store = u }

unfoldable pub with_meta : Plan → Picked → ℕ → Store → Ready
with_meta plan back slot u = record { number = 0; plan = plan; back = back; meta = true; slot = slot; store = u }

-- one that was not refused has number 0, whatever its value says
abbrev pub accepted : Ready → Ready
accepted r = record { number = 0; plan = r.plan; back = r.back; meta = r.meta; slot = r.slot; store = r.store }

-- what making a call on the store s ready answers
abbrev pub ready_of : Store → Result Ready Refusal → Ready
ready_of s (Ok r) = accepted r
ready_of s (Err e) = idle (number_of e) s

-- ---- carried out, cut, counted: the number, and what is made of the call

abbrev pub changed_as : Numbered Store → Changed
changed_as x = record { number = x.number; store = x.value }

abbrev pub cut_as : Numbered Lens → Cut
cut_as x = record { number = x.number; lens = x.value }

unfoldable pub with_lens : Lens → Store → Store
with_lens n s =
    record {
      lens = n;
      pages = s.pages;
      next = s.next;
      time = s.time;
      mark = s.mark;
      table = s.table;
      frames = s.frames;
      held = s.held;
    }

-- the files with the first k stores of what was made ready carried out
abbrev pub files_at : ℕ → ℕ → Prepared → List ℕ → List ℕ → List ℕ → Files
files_at P k p log db clog = files_to P k p.steps p.store.lens log db clog

unfoldable pub carried_out : ℕ → Prepared → List ℕ → List ℕ → List ℕ → Outcome
carried_out P p log db clog =
    let f = files_at P (length p.steps) p log db clog in
    outcome (record { number = p.number; store = with_lens (lens_of f) p.store }) f.log.bytes f.db.bytes f.clog.bytes p.frames

unfoldable pub cut_at : ℕ → ℕ → Prepared → List ℕ → List ℕ → List ℕ → Carried
cut_at P k p log db clog = record { number = p.number; files = files_at P k p log db clog }

-- how many stores a call has; a refused one has none
pub record Counted : Type 0 where
  pub number : ℕ
  pub stores : ℕ

abbrev pub counted_as : Numbered ℕ → Counted
counted_as x = record { number = x.number; stores = x.value }

abbrev pub counted : Result ℕ Refusal → Counted
counted (Ok n) = record { number = 0; stores = n }
counted (Err r) = record { number = number_of r; stores = 0 }

-- a call cut at its k-th store, and how many stores it has
unfoldable pub called_to : ℕ → ℕ → Call → Store → List ℕ → List ℕ → List ℕ → List ℕ → Carried
called_to P k c s log db clog frames =
    let w = world_of s log db clog frames in
    record { number = refuses P c w; files = call_to P k c w }

unfoldable pub counted_for : ℕ → Call → Store → List ℕ → List ℕ → List ℕ → List ℕ → Counted
counted_for P c s log db clog frames =
    let w = world_of s log db clog frames in
    record { number = refuses P c w; stores = count P c w }

-- what was made ready, counted
unfoldable pub counted_of : Ready → Counted
counted_of r = record { number = r.number; stores = length (steps_of r.plan) }

-- ---- tellings

-- a call's number, and of one of its stores kind, offset and length; no values where nothing is told
pub record ToldCall : Type 0 where
  pub number : ℕ
  pub values : List ℕ

unfoldable pub told_as : Numbered (Option Telling) → ToldCall
told_as x = record { number = x.number; values = telling_told x.value }

unfoldable pub told_by : Result (Option Telling) Refusal → ToldCall
told_by (Ok t) = record { number = 0; values = telling_told t }
told_by (Err r) = record { number = number_of r; values = [] }

-- store k of a call, from 1 on; nothing for 0, past the last store, and where the call is refused
unfoldable pub told_for : ℕ → ℕ → Call → Store → List ℕ → List ℕ → List ℕ → List ℕ → ToldCall
told_for P k c s log db clog frames =
    let w = world_of s log db clog frames in
    record { number = refuses P c w; values = told_at k (tellings P c w) }

-- store k of what was made ready, by the lengths that its store has
unfoldable pub told_of : ℕ → ℕ → Ready → ToldCall
told_of P k r = record { number = r.number; values = told_in P r.plan k r.store.lens }
