-- Laws of begin: its stores, and one law for each way out of making it ready. Assumes nothing.
use Prim.Native.Nat.{ℕ, ◌≤◌}
use native.Mathlib.Omega.{arith}
use mathlib.Core.Path.{◌≡◌, refl, sym, ap, ◌∙◌}
use mathlib.Core.List.{List, []}
use mathlib.Core.Bool.{cond}
use lib.ListN.{length}
use lib.Dec.{ltb}
use borrow.Author.Tests.{le-ltb}
use Rattle.fields.specs.Answers.{no_time}
use Rattle.fields.specs.declared.TransactionId.{TransactionId}
use Rattle.table.specs.declared.Status.TheVariants.{Active}
use Rattle.table.specs.declared.Entry.{Entry}
use Rattle.table.specs.Entries.{Inserted, insert_entry, list_of, laid, inserted}
use Rattle.table.proofs.Facts.{accepted-fits, bounded-yes}
use Rattle.world.specs.World.{World, files_of}
use Rattle.world.specs.Calls.{Begin, steps, keeps}
use Rattle.world.specs.Refusals.{argument_no, hold_no, call_no, front_no}
use Rattle.world.proofs.CallLaws.{inserted-number}
use Rattle.stores.specs.declared.Plan.{Plan}
use Rattle.stores.specs.declared.Kind.TheVariants as kind
use Rattle.stores.specs.Plans.{meant}
use Rattle.stores.specs.Room.{number_for}
use Rattle.plans.specs.Planned.{plan_of, no_counters}
use Rattle.plans.proofs.Meanings.{begin-means}
use Rattle.form.specs.declared.Store.{Store}
use Rattle.form.specs.Store.{entries_of, mem_of, world_of, laid_store}
use Rattle.form.proofs.Arrays.{Sized}
use Rattle.form.proofs.Front.{front-means, entries-are, resident-length, frames-same}
use Rattle.ready.specs.declared.Ready.{Ready}
use Rattle.ready.specs.Ready.{readied, idle, plain}
use Rattle.ready.specs.Inside.{remembered, ready_for}
use Rattle.calls.specs.Inside.{begun_store}
use Rattle.ready.proofs.Prepared.{ready-own, ready-plain, ready-short, call-hold}

module _ (P : ℕ) (id : TransactionId) (s : Store) (log db clog frames : List ℕ) where
  abbrev here : World
  here = world_of s log db clog frames

  abbrev entry : Entry
  entry = record { id = id; status = Active }

  begin-steps : (plan : Plan) → plan ≡ plan_of kind.Begin id no_time [] no_counters → meant P frames plan ≡ steps P (Begin id) here
  unfolding world_of
  begin-steps plan e = ap (meant P frames) e ∙ begin-means P here id

  none-touched : length (keeps P (Begin id) here).mem.touched ≤ 64
  unfolding keeps
  none-touched = omega arith

  no-argument : argument_no (Begin id) here ≡ 0
  unfolding argument_no
  no-argument = refl

  module _ (e0 : front_no P here ≡ 0) (plan : Plan) (is : plan ≡ plan_of kind.Begin id no_time [] no_counters) where
    pub begin-short : (r : Ready) (n : ℕ) → r ≡ idle n s → n ≡ number_for P (meant P frames plan) (files_of s.lens log db clog) → (n ≡ 0 → ⊥) →
        readied P r log db clog frames ≡ ready_for P (Begin id) s log db clog frames
    begin-short r n i e h =
        ready-short P (Begin id) s log db clog frames e0 no-argument none-touched (meant P frames plan) (begin-steps plan is) r n i e h

    module _ (z : Sized s) (room : 0 ≡ number_for P (meant P frames plan) (files_of s.lens log db clog)) (t : Inserted)
        (set : t ≡ inserted 256 s.table entry) where
      list : insert_entry entry (entries_of s.table) ≡ insert_entry entry (list_of s.table)
      list = ap (insert_entry entry) (entries-are P s log db clog frames (front-means P s log db clog frames e0) z)

      hold : call_no P (Begin id) here ≡ cond (ltb 256 (length (insert_entry entry (list_of s.table)))) 7 0
      unfolding hold_no keeps world_of mem_of
      hold =
          let i = front-means P s log db clog frames e0 in
          call-hold P (Begin id) s log db clog frames e0 no-argument none-touched (meant P frames plan) (begin-steps plan is) (sym room)
          ∙ rw (list, le-ltb _ _ (resident-length P s log db clog frames i))

      pub begin-7 : (r : Ready) → r ≡ idle t.number s → (t.number ≡ 0 → ⊥) → readied P r log db clog frames ≡ ready_for P (Begin id) s log db clog frames
      begin-7 r i h =
          ready-own P (Begin id) s log db clog frames e0 r t.number i (ap (λ (x : Inserted). x.number) set ∙ inserted-number 256 s.table entry ∙ sym hold) h

      -- what it remembers, in the code's terms
      begin-store : t.table ≡ laid s.table (insert_entry entry (list_of s.table)) → remembered P (Begin id) s here ≡ begun_store s id t.table
      unfolding keeps laid_store world_of mem_of begun_store
      begin-store e = rw (list, frames-same P s log db clog frames (front-means P s log db clog frames e0) z, e)

      begin-frames : frames ≡ (keeps P (Begin id) here).frames
      unfolding keeps world_of
      begin-frames = refl

      pub begin-out : t.number ≡ 0 → (r : Ready) (u : Store) → u ≡ begun_store s id t.table → r ≡ plain plan u →
          readied P r log db clog frames ≡ ready_for P (Begin id) s log db clog frames
      unfolding inserted
      begin-out h r u v k =
          let l = insert_entry entry (list_of s.table) in
          let few = accepted-fits 256 s.table l (sym (ap (λ (x : Inserted). x.number) set) ∙ h) in
          let tab : t.table ≡ laid s.table l = ap (λ (x : Inserted). x.table) (set ∙ bounded-yes 256 s.table l few) in
          let none : call_no P (Begin id) here ≡ 0 = hold ∙ rw (le-ltb 256 (length l) few) in
          ready-plain P (Begin id) s log db clog frames e0 r plan u k (begin-steps plan is) (v ∙ sym (begin-store tab)) begin-frames none
