-- Laws of flush: inside a transaction, outside of one with the page resident or not; one law for each way out of making it ready. Assumes nothing.
use Prim.Native.Nat.{ℕ, zero, suc, ◌≤◌, ◌<◌}
use native.Mathlib.Omega.{arith}
use mathlib.Core.Path.{◌≡◌, refl, sym, ap, ◌∙◌}
use mathlib.Core.List.{List, [], ◌∷◌}
use mathlib.Core.Bool.{true, false, cond}
use lib.ListN.{length}
use borrow.Author.Tests.{le-leb, lt-leb, lt-ltb}
use Rattle.fields.specs.Answers.{no_id, no_time}
use Rattle.fields.proofs.Tests.{Order, less, most, order}
use Rattle.wal.specs.Records.{image}
use Rattle.std.specs.Prelude.{Option, Some, None}
use Rattle.frames.specs.Pages as pages
use Rattle.frames.specs.Pages.{is_in, slot_of, touch, laid_touched, frame_count, place_told, found_in, Marked, marked}
use Rattle.frames.specs.Copies.{frame_of}
use Rattle.frames.proofs.Values.{at-means, nowhere-means, mark-yes, mark-no}
use Rattle.world.specs.declared.Slot.{Slot}
use Rattle.world.specs.declared.Slot.TheVariants.{Installed, Empty}
use Rattle.world.specs.World.{World, with_mem, with_transaction, files_of}
use Rattle.world.specs.Steps as world
use Rattle.world.specs.Calls.{Flush, steps, keeps, held_page, flush_steps, flush_keeps}
use Rattle.world.specs.Refusals.{is_installed, argument_no, call_no, front_no}
use Rattle.world.specs.Run.{decided}
use Rattle.stores.specs.declared.Plan.{Plan}
use Rattle.stores.specs.declared.Kind.TheVariants as kind
use Rattle.stores.specs.Plans.{meant}
use Rattle.stores.specs.Room.{number_for}
use Rattle.picks.specs.Picks.{seat}
use Rattle.plans.specs.Planned.{plan_of, no_counters}
use Rattle.plans.proofs.Meanings.{flush-means}
use Rattle.form.specs.declared.Store.{Store}
use Rattle.form.specs.Store.{resident_of, touched_of, mem_of, world_of, laid_store, with_array}
use Rattle.form.proofs.Arrays.{Sized}
use Rattle.form.proofs.Front.{front-means, entries-length, resident-length, resident-are, touched-are, table_same, frames-same}
use Rattle.form.proofs.Called.{quiet}
use Rattle.ready.specs.declared.Ready.{Ready}
use Rattle.ready.specs.Ready.{readied, idle, plain}
use Rattle.ready.specs.Inside.{remembered, ready_for}
use Rattle.calls.specs.Inside.{marked_as}
use Rattle.ready.proofs.Prepared.{ready-no, ready-none, ready-still, still-short, still-out}

-- ---- by the transaction's place

module _ (P p : ℕ) (w : World) where
  steps-in : (k : Slot) → is_installed k ≡ true → flush_steps P p w k ≡ []
  unfolding flush_steps
  steps-in (Installed id) h = refl
  steps-in Empty h = let z : ◌≡◌ {A = ℕ} 0 1 = cc in absurd (omega arith)

  keeps-in : (k : Slot) → is_installed k ≡ true → flush_keeps p w k ≡ with_mem (with_transaction k (touch p w.mem.touched) w.mem) w
  unfolding flush_keeps
  keeps-in (Installed id) h = refl
  keeps-in Empty h = let z : ◌≡◌ {A = ℕ} 0 1 = cc in absurd (omega arith)

  steps-out : (k : Slot) → is_installed k ≡ false →
      flush_steps P p w k ≡ cond (is_in p w.mem.resident) (world.Log (image p (held_page P w p)) ∷ world.Page p (held_page P w p) ∷ []) []
  unfolding flush_steps
  steps-out (Installed id) h = let z : ◌≡◌ {A = ℕ} 0 1 = cc in absurd (omega arith)
  steps-out Empty h = refl

  keeps-out : (k : Slot) → is_installed k ≡ false → flush_keeps p w k ≡ w
  unfolding flush_keeps
  keeps-out (Installed id) h = let z : ◌≡◌ {A = ℕ} 0 1 = cc in absurd (omega arith)
  keeps-out Empty h = refl

-- ---- a page marked touched: 11, or with one page more

module _ (s : Store) (p : ℕ) (x : Marked) (is : x ≡ marked 64 s.held.touched p) (r : Ready) where
  pub marked-full : r ≡ idle x.number s → (x.number ≡ 0 → ⊥) → r ≡ marked_as s p
  unfolding marked_as
  marked-full i h = i ∙ go x.number h ∙ rw (← is)
    where
      go : (n : ℕ) → (n ≡ 0 → ⊥) → idle n s ≡ decided n (idle 0 (with_array s x.touched)) (idle n s)
      go zero h = absurd (h refl)
      go (suc n) h = refl

  pub marked-fine : r ≡ idle 0 (with_array s x.touched) → x.number ≡ 0 → r ≡ marked_as s p
  unfolding marked_as
  marked-fine i h = i ∙ rw (← is, h)

-- ---- the ways out

module _ (P p : ℕ) (s : Store) (log db clog frames : List ℕ) (e0 : front_no P (world_of s log db clog frames) ≡ 0) where
  abbrev here : World
  here = world_of s log db clog frames

  pub flush-10 : (r : Ready) → r ≡ idle 10 s → 4294967295 ≤ p → readied P r log db clog frames ≡ ready_for P (Flush p) s log db clog frames
  unfolding call_no argument_no
  flush-10 r i h = ready-no P (Flush p) s log db clog frames e0 r 9 i (rw (le-leb 4294967295 p h))

  module _ (good : p < 4294967295) (z : Sized s) where
    own : argument_no (Flush p) here ≡ 0
    unfolding argument_no
    own = rw (lt-leb 4294967295 p good)

    -- ---- inside a transaction

    module _ (inside : is_installed s.held.slot ≡ true) where
      abbrev x : Marked
      x = marked 64 s.held.touched p

      abbrev more : List ℕ
      more = touch p (pages.touched_of s.held.touched)

      touched-list : touch p (touched_of s.held.touched) ≡ more
      touched-list = ap (touch p) (touched-are P s log db clog frames (front-means P s log db clog frames e0) z)

      keeps-is : keeps P (Flush p) here ≡ with_mem (with_transaction s.held.slot (touch p (touched_of s.held.touched)) here.mem) here
      unfolding keeps world_of mem_of
      keeps-is = keeps-in P p here s.held.slot inside

      touched-is : (keeps P (Flush p) here).mem.touched ≡ more
      touched-is = ap (λ (v : World). v.mem.touched) keeps-is ∙ touched-list

      steps-none : steps P (Flush p) here ≡ []
      unfolding steps world_of mem_of
      steps-none = steps-in P p here s.held.slot inside

      kept : length more ≤ 64 → marked 64 s.held.touched p ≡ record { number = 0; touched = laid_touched s.held.touched more }
      kept l = mark-yes 64 s.held.touched p l

      over : 64 < length more → call_no P (Flush p) here ≡ 11
      unfolding call_no
      over l = rw (own, touched-is, lt-ltb 64 (length more) l)

      marking-is : x.touched ≡ laid_touched s.held.touched more → remembered P (Flush p) s here ≡ with_array s x.touched
      unfolding laid_store world_of mem_of with_array
      marking-is e =
          let i = front-means P s log db clog frames e0 in
          ap (λ (v : World). laid_store s (record { files = here.files; frames = v.frames; mem = v.mem })) keeps-is
          ∙ rw (table_same P s log db clog frames i z, frames-same P s log db clog frames i z, touched-list, e)

      frames-in : frames ≡ (keeps P (Flush p) here).frames
      unfolding world_of
      frames-in = sym (ap (λ (v : World). v.frames) keeps-is)

      none_in : length more ≤ 64 → call_no P (Flush p) here ≡ 0
      unfolding world_of mem_of
      none_in l =
          let i = front-means P s log db clog frames e0 in
          let t : length (keeps P (Flush p) here).mem.table ≤ 256 = rw keeps-is (entries-length P s log db clog frames i) in
          let r : length (keeps P (Flush p) here).mem.resident ≤ frame_count 64 P (length (keeps P (Flush p) here).frames) =
          rw keeps-is (resident-length P s log db clog frames i) in
          quiet P (Flush p) s log db clog frames i own steps-none (rw touched-is l) t r

      -- 11, or the page is marked
      pub flush-in : (r : Ready) → r ≡ marked_as s p → readied P r log db clog frames ≡ ready_for P (Flush p) s log db clog frames
      unfolding marked_as
      flush-in r i = go (order 64 (length more))
        where
          go : Order 64 (length more) → readied P r log db clog frames ≡ ready_for P (Flush p) s log db clog frames
          go (less l) =
              let e : (marked 64 s.held.touched p).number ≡ 11 = ap (λ (y : Marked). y.number) (mark-no 64 s.held.touched p l) in
              ready-no P (Flush p) s log db clog frames e0 r 10 (i ∙ rw e) (over l)
          go (most l) =
              let e : (marked 64 s.held.touched p).number ≡ 0 = ap (λ (y : Marked). y.number) (kept l) in
              let t : x.touched ≡ laid_touched s.held.touched more = ap (λ (y : Marked). y.touched) (kept l) in
              ready-none P (Flush p) s log db clog frames e0 r (with_array s x.touched) (i ∙ rw e) steps-none (sym (marking-is t)) frames-in (none_in l)

    -- ---- outside

    module _ (outside : is_installed s.held.slot ≡ false) (place : Option ℕ) (found : place_told place ≡ found_in p (pages.resident_of s.frames)) where
      keeps_same : keeps P (Flush p) here ≡ here
      unfolding keeps world_of mem_of
      keeps_same = keeps-out P p here s.held.slot outside

      resident-same : resident_of s.frames ≡ pages.resident_of s.frames
      resident-same = resident-are P s log db clog frames (front-means P s log db clog frames e0) z

      steps-is : steps P (Flush p) here ≡
          cond (is_in p (resident_of s.frames))
          (world.Log (image p (frame_of P frames (slot_of p (resident_of s.frames)))) ∷ world.Page p (frame_of P frames (slot_of p (resident_of s.frames))) ∷ []) []
      unfolding steps held_page world_of mem_of
      steps-is = steps-out P p here s.held.slot outside

      pub flush-absent : (r : Ready) → r ≡ idle 0 s → place ≡ None → readied P r log db clog frames ≡ ready_for P (Flush p) s log db clog frames
      flush-absent r i e =
          let n : is_in p (resident_of s.frames) ≡ false =
          rw resident-same (nowhere-means p (pages.resident_of s.frames) (sym (ap place_told e) ∙ found)) in
          ready-still P (Flush p) s log db clog frames e0 z own keeps_same r i (steps-is ∙ rw n)

      module _ (slot : ℕ) (at : place ≡ Some slot) (plan : Plan) (planned : plan ≡ plan_of kind.Flush no_id no_time (seat p slot ∷ []) no_counters) where
        flush-steps : meant P frames plan ≡ steps P (Flush p) here
        unfolding held_page world_of mem_of
        flush-steps =
            let m = at-means p (pages.resident_of s.frames) slot (sym (ap place_told at) ∙ found) in
            let b : is_in p (resident_of s.frames) ≡ true = rw resident-same m.0 in
            let k : slot ≡ slot_of p (resident_of s.frames) = rw resident-same m.1 in
            ap (meant P frames) (planned ∙ ap (λ (j : ℕ). plan_of kind.Flush no_id no_time (seat p j ∷ []) no_counters) k) ∙ flush-means P here p ∙ sym (steps-is ∙ rw b)

        module _ (n : ℕ) (room : n ≡ number_for P (meant P frames plan) (files_of s.lens log db clog)) where
          pub flush-short : (r : Ready) → r ≡ idle n s → (n ≡ 0 → ⊥) → readied P r log db clog frames ≡ ready_for P (Flush p) s log db clog frames
          flush-short r i h = still-short P (Flush p) s log db clog frames e0 z own keeps_same plan flush-steps n room r i h

          pub flush-out : (r : Ready) → r ≡ plain plan s → n ≡ 0 → readied P r log db clog frames ≡ ready_for P (Flush p) s log db clog frames
          flush-out r i e = still-out P (Flush p) s log db clog frames e0 z own keeps_same plan flush-steps n room r i e
