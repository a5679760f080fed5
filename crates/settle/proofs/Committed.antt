-- Laws of commit: with no transaction, and with one. Assumes nothing.
use Prim.Native.Nat.{ℕ, ◌≤◌}
use native.Mathlib.Omega.{arith}
use mathlib.Core.Path.{◌≡◌, refl, sym, ap, ◌∙◌}
use mathlib.Core.List.{List, []}
use mathlib.Core.Bool.{cond}
use lib.ListN.{length}
use lib.Dec.{ltb}
use Rattle.fields.specs.declared.TransactionId.{TransactionId}
use Rattle.fields.specs.declared.CommitTime.{CommitTime}
use Rattle.table.specs.declared.Status.TheVariants.{Committed}
use Rattle.table.specs.declared.Entry.{Entry}
use Rattle.table.specs.Entries.{Inserted, insert_entry, inserted}
use Rattle.meta.specs.declared.Counters.{Counters}
use Rattle.meta.specs.Page.{meta_page}
use Rattle.frames.specs.Pages as pages
use Rattle.frames.specs.Pages.{slot_of}
use Rattle.frames.specs.Copies.{with_frame}
use Rattle.world.specs.declared.Slot.TheVariants.{Installed, Empty}
use Rattle.world.specs.World.{Mem, World}
use Rattle.world.specs.Steps.{apply_all}
use Rattle.world.specs.Calls.{Commit, next_time, committed, held, steps}
use Rattle.world.specs.Refusals.{argument_no, front_no}
use Rattle.world.proofs.FrameLaws.{held-few}
use Rattle.world.proofs.CallLaws.{commit-steps, commit-keeps, commit-steps-empty, commit-keeps-empty}
use Rattle.picks.specs.declared.Picked.{Picked}
use Rattle.picks.specs.declared.Which.TheVariants.{All}
use Rattle.picks.specs.Picks.{chosen, seats_of, picked_of}
use Rattle.stores.specs.declared.Plan.{Plan}
use Rattle.stores.specs.declared.Kind.TheVariants as kind
use Rattle.stores.specs.Plans.{meant}
use Rattle.plans.specs.Planned.{plan_of, timed}
use Rattle.plans.proofs.Meanings.{chosen-all, commit-means}
use Rattle.form.specs.declared.Store.{Store}
use Rattle.form.specs.Store.{entries_of, resident_of, mem_of, world_of, laid_store}
use Rattle.form.proofs.Arrays.{Sized}
use Rattle.form.proofs.Front.{InForm, front-means, touched-length, resident-are, touched-are}
use Rattle.ready.specs.declared.Ready.{Ready}
use Rattle.ready.specs.Ready.{readied, meta_of, refill_to, refill, idle}
use Rattle.ready.specs.Inside.{ready_for}
use Rattle.ready.proofs.Prepared.{ready-still}
use Rattle.settle.specs.Inside.{counters_of, ended_store, sealed_as}
use Rattle.settle.proofs.Sealed.{sealed-ready, ended-no, ended-left}

module _ (P : ℕ) (s : Store) (log db clog frames : List ℕ) (e0 : front_no P (world_of s log db clog frames) ≡ 0) (z : Sized s) where
  abbrev here : World
  here = world_of s log db clog frames

  i : InForm P s log db clog frames
  i = front-means P s log db clog frames e0

  own : argument_no Commit here ≡ 0
  unfolding argument_no
  own = refl

  pub commit-none : (r : Ready) → s.held.slot ≡ Empty → r ≡ idle 0 s → readied P r log db clog frames ≡ ready_for P Commit s log db clog frames
  unfolding world_of mem_of
  commit-none r e k = ready-still P Commit s log db clog frames e0 z own (commit-keeps-empty P here e) r k (commit-steps-empty P here e)

  module _ (id : TransactionId) (inside : s.held.slot ≡ Installed id) where
    abbrev entry : Entry
    entry = record { id = id; status = Committed s.time }

    abbrev mem : Mem
    mem = committed id here.mem

    in-slot : here.mem.slot ≡ Installed id
    unfolding world_of mem_of
    in-slot = inside

    abbrev planned : Counters → Plan
    planned m =
        plan_of kind.Commit id m.time
        (seats_of (pages.resident_of s.frames) (chosen All [] (pages.resident_of s.frames) (pages.touched_of s.held.touched))) (timed m)

    few-held : length (held (mem_of s)) ≤ 64
    unfolding mem_of
    few-held = omega (arith, held-few (mem_of s), touched-length P s log db clog frames i)

    plan-means : meant P frames (planned (counters_of s)) ≡ steps P Commit here
    unfolding world_of mem_of
    plan-means =
        rw (← resident-are P s log db clog frames i z, ← touched-are P s log db clog frames i z, chosen-all (mem_of s)) (commit-means P here id few-held)
        ∙ sym (commit-steps P here id in-slot)

    resident-is : mem.resident ≡ resident_of s.frames
    unfolding committed world_of mem_of
    resident-is = refl

    few : length mem.touched ≤ 64
    unfolding committed
    few = omega arith

    size : length here.frames ≡ length frames
    unfolding world_of
    size = refl

    table_is : mem.table ≡ insert_entry entry (entries_of s.table)
    unfolding committed world_of mem_of
    table_is = refl

    commit-meta : meta_of P (timed (counters_of s)) ≡ meta_page P mem.next.0 mem.time.0 mem.mark.0
    unfolding committed world_of mem_of
    commit-meta = refl

    given-none : (back : Picked) → back ≡ picked_of 64 [] →
        with_frame P (refill P (apply_all P (steps P Commit here) here.files).db back frames) (slot_of 0 (resident_of s.frames)) (meta_page P mem.next.0 mem.time.0 mem.mark.0) ≡
        with_frame P here.frames (slot_of 0 (resident_of s.frames)) (meta_page P mem.next.0 mem.time.0 mem.mark.0)
    unfolding refill_to picked_of world_of
    given-none back e = rw e

    module _ (t : Inserted) (set : t ≡ inserted 256 s.table entry) where
      commit-left : t.number ≡ 0 → ended_store s s.pages (next_time s.time) t.table ≡ laid_store s (record { files = here.files; frames = frames; mem = mem })
      unfolding committed world_of mem_of
      commit-left h = ended-left P s log db clog frames e0 z entry t set s.pages (next_time s.time) h

      pub commit-out : (plan : Plan) (m : Counters) (time : CommitTime) (back : Picked) (u : Store) (r : Ready) → 36 ≤ P → plan ≡ planned m → m ≡ counters_of s →
          time ≡ next_time s.time → back ≡ picked_of 64 [] → u ≡ ended_store s s.pages time t.table →
          r ≡ sealed_as P s u t.number plan back log db clog frames → readied P r log db clog frames ≡ ready_for P Commit s log db clog frames
      unfolding plan_of
      commit-out plan m time back u r big a b q d f k =
          let p : plan ≡ planned (counters_of s) = a ∙ ap planned b in
          let full : t.number ≡ cond (ltb 256 (length mem.table)) 7 0 = rw table_is (ended-no P s log db clog frames e0 z entry t set) in
          sealed-ready P Commit s log db clog frames e0 z big own here.files.db mem here (commit-keeps P here id in-slot) size resident-is few plan back
          (ap (meant P frames) p ∙ plan-means) t.number full u (λ e. f ∙ rw q (commit-left e)) (ap (λ (x : Plan). meta_of P x.meta) p ∙ commit-meta) (given-none back d) r k
