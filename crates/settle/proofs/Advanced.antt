-- Laws of advancing the mark: not above the old one, or above it. Assumes nothing.
use Prim.Native.Nat.{ℕ, ◌≤◌, ◌<◌}
use mathlib.Core.Path.{◌≡◌, refl, sym, ap, ◌∙◌}
use mathlib.Core.List.{List, []}
use mathlib.Core.Bool.{cond}
use lib.ListN.{length}
use lib.Dec.{ltb}
use borrow.Author.Tests.{le-ltb}
use Rattle.fields.specs.Answers.{no_id, no_time}
use Rattle.fields.specs.declared.TransactionId.{TransactionId}
use Rattle.meta.specs.declared.Counters.{Counters}
use Rattle.meta.specs.Page.{meta_page}
use Rattle.frames.specs.Pages.{slot_of}
use Rattle.frames.specs.Copies.{with_frame}
use Rattle.world.specs.World.{Mem, World}
use Rattle.world.specs.Steps.{apply_all}
use Rattle.world.specs.Calls.{Advance, steps, advanced}
use Rattle.world.specs.Refusals.{argument_no, front_no}
use Rattle.world.proofs.CallLaws as laws
use Rattle.picks.specs.declared.Picked.{Picked}
use Rattle.picks.specs.Picks.{picked_of}
use Rattle.stores.specs.declared.Plan.{Plan}
use Rattle.stores.specs.declared.Kind.TheVariants as kind
use Rattle.stores.specs.Plans.{meant}
use Rattle.plans.specs.Planned.{plan_of, marked}
use Rattle.plans.proofs.Meanings.{advance-means}
use Rattle.form.specs.declared.Store.{Store}
use Rattle.form.specs.Store.{resident_of, mem_of, world_of, laid_store}
use Rattle.form.proofs.Arrays.{Sized}
use Rattle.form.proofs.Front.{front-means, entries-length, touched-length, table_same, frames-same, touched-same}
use Rattle.ready.specs.declared.Ready.{Ready}
use Rattle.ready.specs.Ready.{readied, meta_of, refill_to, refill, idle}
use Rattle.ready.specs.Inside.{ready_for}
use Rattle.ready.proofs.Prepared.{ready-still}
use Rattle.settle.specs.Inside.{counters_of, marked_store, sealed_as}
use Rattle.settle.proofs.Sealed.{sealed-ready}

module _ (P : ℕ) (v : TransactionId) (s : Store) (log db clog frames : List ℕ) (e0 : front_no P (world_of s log db clog frames) ≡ 0) (z : Sized s) where
  abbrev here : World
  here = world_of s log db clog frames

  own : argument_no (Advance v) here ≡ 0
  unfolding argument_no
  own = refl

  pub advance-low : (r : Ready) → v.0 ≤ s.mark.0 → r ≡ idle 0 s → readied P r log db clog frames ≡ ready_for P (Advance v) s log db clog frames
  unfolding world_of mem_of
  advance-low r low i =
      ready-still P (Advance v) s log db clog frames e0 z own (laws.advance-keeps-none P v here low) r i (laws.advance-steps-none P v here low)

  module _ (high : s.mark.0 < v.0) (big : 36 ≤ P) where
    abbrev mem : Mem
    mem = advanced v here.mem

    above : here.mem.mark.0 < v.0
    unfolding world_of mem_of
    above = high

    resident-is : mem.resident ≡ resident_of s.frames
    unfolding advanced world_of mem_of
    resident-is = refl

    few : length mem.touched ≤ 64
    unfolding advanced world_of mem_of
    few = touched-length P s log db clog frames (front-means P s log db clog frames e0)

    size : length here.frames ≡ length frames
    unfolding world_of
    size = refl

    advance-stores : meant P frames (plan_of kind.Advance no_id no_time [] (marked v (counters_of s))) ≡ steps P (Advance v) here
    unfolding world_of mem_of
    advance-stores = advance-means P here v ∙ sym (laws.advance-steps P v here above)

    no_table : ◌≡◌ {A = ℕ} 0 (cond (ltb 256 (length mem.table)) 7 0)
    unfolding advanced world_of mem_of
    no_table = rw (le-ltb 256 _ (entries-length P s log db clog frames (front-means P s log db clog frames e0)))

    advance-left : marked_store s v ≡ laid_store s (record { files = here.files; frames = frames; mem = mem })
    unfolding marked_store laid_store advanced world_of mem_of
    advance-left =
        let i = front-means P s log db clog frames e0 in
        rw (table_same P s log db clog frames i z, frames-same P s log db clog frames i z, touched-same s.held.touched z.touched i.touched)

    advance-meta : meta_of P (marked v (counters_of s)) ≡ meta_page P mem.next.0 mem.time.0 mem.mark.0
    unfolding advanced world_of mem_of
    advance-meta = refl

    given-none : (back : Picked) → back ≡ picked_of 64 [] →
        with_frame P (refill P (apply_all P (steps P (Advance v) here) here.files).db back frames) (slot_of 0 (resident_of s.frames)) (meta_page P mem.next.0 mem.time.0 mem.mark.0) ≡
        with_frame P here.frames (slot_of 0 (resident_of s.frames)) (meta_page P mem.next.0 mem.time.0 mem.mark.0)
    unfolding refill_to picked_of world_of
    given-none back e = rw e

    pub advance-out : (plan : Plan) (m : Counters) (back : Picked) (u : Store) (r : Ready) → plan ≡ plan_of kind.Advance no_id no_time [] (marked v m) →
        m ≡ counters_of s → back ≡ picked_of 64 [] → u ≡ marked_store s v → r ≡ sealed_as P s u 0 plan back log db clog frames →
        readied P r log db clog frames ≡ ready_for P (Advance v) s log db clog frames
    unfolding plan_of
    advance-out plan m back u r a b d f i =
        let p : plan ≡ plan_of kind.Advance no_id no_time [] (marked v (counters_of s)) = a ∙ rw b in
        sealed-ready P (Advance v) s log db clog frames e0 z big own here.files.db mem here (laws.advance-keeps P v here above) size resident-is few plan back
        (ap (meant P frames) p ∙ advance-stores) 0 no_table u (λ e. f ∙ advance-left) (ap (λ (x : Plan). meta_of P x.meta) p ∙ advance-meta) (given-none back d) r i
