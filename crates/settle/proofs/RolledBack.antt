-- Laws of rollback: a bad page in the list, no transaction, and with one. Assumes nothing.
use Prim.Native.Nat.{ℕ, ◌*◌, ◌≤◌}
use native.Mathlib.Omega.{arith}
use mathlib.Core.Path.{◌≡◌, refl, sym, ap, ◌∙◌}
use mathlib.Core.List.{List, [], ◌∷◌}
use mathlib.Core.Bool.{Bool, true, false, cond, ◌||◌}
use lib.ListN.{length}
use lib.Dec.{ltb, eqb}
use borrow.Author.Tests.{eqb-true}
use Rattle.fields.specs.Answers.{no_time}
use Rattle.fields.proofs.Tests.{neither}
use Rattle.fields.specs.declared.TransactionId.{TransactionId}
use Rattle.fields.specs.Files.{File, lay}
use Rattle.table.specs.declared.Status.TheVariants.{Aborted}
use Rattle.table.specs.declared.Entry.{Entry}
use Rattle.table.specs.Entries.{Inserted, insert_entry, inserted}
use Rattle.meta.specs.declared.Counters.{Counters}
use Rattle.meta.specs.Page.{meta_page}
use Rattle.meta.proofs.Laws.{length-meta}
use Rattle.frames.specs.Pages as pages
use Rattle.frames.specs.Pages.{is_in, slot_of, bad_page, any_bad}
use Rattle.frames.specs.Copies.{with_frame}
use Rattle.world.specs.declared.Slot.TheVariants.{Installed, Empty}
use Rattle.world.specs.World.{Files, Mem, World}
use Rattle.world.specs.Steps.{Step, apply, apply_all}
use Rattle.world.specs.Calls.{Rollback, rolled_back, catalog_pages, data_pages, held, steps}
use Rattle.world.specs.Refusals.{argument_no, call_no, front_no}
use Rattle.world.proofs.FrameLaws.{raised, data-few, catalog-few, keep-part, revert-frames-size}
use Rattle.world.proofs.CallLaws.{rollback-applied, rollback-steps, rollback-keeps, rollback-steps-empty, rollback-keeps-empty, rollback-meta, back_files, reverted, reverted-mem, reverted-frames}
use Rattle.picks.specs.declared.Picked.{Picked}
use Rattle.picks.specs.declared.Which.TheVariants.{Data, Catalog}
use Rattle.picks.specs.Picks.{chosen, seats_of, picked_of}
use Rattle.stores.specs.declared.Plan.{Plan}
use Rattle.stores.specs.declared.Kind.TheVariants as kind
use Rattle.stores.specs.Plans.{meant}
use Rattle.plans.specs.Planned.{plan_of}
use Rattle.plans.proofs.Meanings.{chosen-data, rollback-means}
use Rattle.form.specs.declared.Store.{Store}
use Rattle.form.specs.Store.{entries_of, resident_of, touched_of, mem_of, world_of, laid_store}
use Rattle.form.proofs.Arrays.{Sized}
use Rattle.form.proofs.Front.{InForm, front-means, touched-length, resident-are, touched-are}
use Rattle.ready.specs.declared.Ready.{Ready}
use Rattle.ready.specs.Ready.{readied, meta_of, refill, idle}
use Rattle.ready.specs.Inside.{ready_for}
use Rattle.ready.proofs.Prepared.{ready-still, ready-no}
use Rattle.settle.specs.Inside.{counters_of, ended_store, raised_by, sealed_as}
use Rattle.settle.proofs.Sealed.{sealed-ready, ended-no, ended-left}
use Rattle.settle.proofs.GivenBack.{refill-is, raised_is, other-page, refilled-either}

-- a page of a list with no bad page is good
good-in : (ps : List ℕ) → any_bad ps ≡ false → (p : ℕ) → is_in p ps ≡ true → bad_page p ≡ false
unfolding any_bad is_in
good-in [] b p h = let y : ◌≡◌ {A = ℕ} 0 1 = cc in absurd (omega arith)
good-in (x ∷ ps) b p h =
    let k : (bad_page x ≡ false) × (any_bad ps ≡ false) = neither (bad_page x) (any_bad ps) b in
    go (eqb x p) refl k.0 (good-in ps k.1 p) h
  where
    go : (e : Bool) → eqb x p ≡ e → bad_page x ≡ false → (is_in p ps ≡ true → bad_page p ≡ false) → (e || is_in p ps) ≡ true → bad_page p ≡ false
    go true w u f h = ap bad_page (sym (eqb-true x p w)) ∙ u
    go false w u f h = f h

module _ (P : ℕ) (list : List ℕ) (s : Store) (log db clog frames : List ℕ) (e0 : front_no P (world_of s log db clog frames) ≡ 0) where
  abbrev here : World
  here = world_of s log db clog frames

  pub rollback-10 : (r : Ready) → r ≡ idle 10 s → any_bad list ≡ true → readied P r log db clog frames ≡ ready_for P (Rollback list) s log db clog frames
  unfolding call_no argument_no
  rollback-10 r i h = ready-no P (Rollback list) s log db clog frames e0 r 9 i (rw h)

  module _ (good : any_bad list ≡ false) (z : Sized s) where
    i : InForm P s log db clog frames
    i = front-means P s log db clog frames e0

    own : argument_no (Rollback list) here ≡ 0
    unfolding argument_no
    own = rw good

    pub rollback-none : (r : Ready) → s.held.slot ≡ Empty → r ≡ idle 0 s → readied P r log db clog frames ≡ ready_for P (Rollback list) s log db clog frames
    unfolding world_of mem_of
    rollback-none r e k =
        ready-still P (Rollback list) s log db clog frames e0 z own (rollback-keeps-empty P list here e) r k (rollback-steps-empty P list here e)

    module _ (id : TransactionId) (inside : s.held.slot ≡ Installed id) where
      abbrev entry : Entry
      entry = record { id = id; status = Aborted }

      abbrev back-pages : List ℕ
      back-pages = catalog_pages list here.mem

      in-slot : here.mem.slot ≡ Installed id
      unfolding world_of mem_of
      in-slot = inside

      -- ---- the plan and the pages that go back

      abbrev planned : Counters → Plan
      planned m =
          plan_of kind.Rollback id no_time
          (seats_of (pages.resident_of s.frames) (chosen Data list (pages.resident_of s.frames) (pages.touched_of s.held.touched))) m

      abbrev picked : Picked
      picked = picked_of 64 (seats_of (pages.resident_of s.frames) (chosen Catalog list (pages.resident_of s.frames) (pages.touched_of s.held.touched)))

      few-data : length (data_pages list (mem_of s)) ≤ 64
      unfolding mem_of
      few-data = omega (arith, data-few (mem_of s) list, touched-length P s log db clog frames i)

      few-back : length back-pages ≤ 64
      unfolding world_of mem_of
      few-back = omega (arith, catalog-few (mem_of s) list, touched-length P s log db clog frames i)

      plan-means : meant P frames (planned (counters_of s)) ≡ steps P (Rollback list) here
      unfolding world_of mem_of
      plan-means =
          rw (← resident-are P s log db clog frames i z, ← touched-are P s log db clog frames i z, chosen-data list (mem_of s)) (rollback-means P here id list few-data)
          ∙ sym (rollback-steps P list here id in-slot)

      picked-is : picked ≡ picked_of 64 (seats_of (resident_of s.frames) back-pages)
      unfolding chosen catalog_pages held world_of mem_of
      picked-is = rw (← resident-are P s log db clog frames i z, ← touched-are P s log db clog frames i z)

      good-back : (p : ℕ) → is_in p back-pages ≡ true → bad_page p ≡ false
      unfolding catalog_pages held world_of mem_of
      good-back p h = good-in (touched_of s.held.touched) i.touched-good p (keep-part _ _ p (keep-part _ _ p h))

      -- ---- what it leaves

      abbrev mem : Mem
      mem = rolled_back id (reverted P list here id).mem

      mem_is : mem ≡ record {
        pages = raised s.pages back-pages;
        next = s.next;
        time = s.time;
        mark = s.mark;
        table = insert_entry entry (entries_of s.table);
        resident = resident_of s.frames;
        slot = Empty;
        touched = [];
      }
      unfolding rolled_back world_of mem_of
      mem_is = ap (rolled_back id) (reverted-mem P list here id)

      size : length (reverted P list here id).frames ≡ length frames
      unfolding world_of
      size = revert-frames-size P (back_files P list here id).db back-pages here

      abbrev page : List ℕ
      page = meta_page P mem.next.0 mem.time.0 mem.mark.0

      -- the stores end with that page
      end-db : (apply_all P (steps P (Rollback list) here) here.files).db ≡ lay (back_files P list here id).db 0 page
      unfolding apply
      end-db =
          let front : 0 * P ≡ 0 = omega arith in
          ap (λ (ss : List Step). (apply_all P ss here.files).db) (rollback-steps P list here id in-slot)
          ∙ ap (λ (f : Files). f.db) (rollback-applied P list here id here.files)
          ∙ ap (λ (x : Step). (apply P x (back_files P list here id)).db) (sym (rollback-meta P list here id in-slot))
          ∙ ap (λ (at : ℕ). lay (back_files P list here id).db at page) front

      module _ (big : 36 ≤ P) where
        long : length page ≡ P
        long = length-meta P big mem.next.0 mem.time.0 mem.mark.0

        given : (back : Picked) → back ≡ picked →
            with_frame P (refill P (apply_all P (steps P (Rollback list) here) here.files).db back frames) (slot_of 0 (resident_of s.frames)) page ≡
            with_frame P (reverted P list here id).frames (slot_of 0 (resident_of s.frames)) page
        unfolding world_of mem_of
        given back e =
            let one = lay (back_files P list here id).db 0 page in
            let two = (back_files P list here id).db in
            let res = resident_of s.frames in
            let k = slot_of 0 res in
            ap (λ (x : Picked). with_frame P (refill P (apply_all P (steps P (Rollback list) here) here.files).db x frames) k page) (e ∙ picked-is)
            ∙ ap (λ (f : File). with_frame P (refill P f (picked_of 64 (seats_of res back-pages)) frames) k page) end-db
            ∙ ap (λ (b : List ℕ). with_frame P b k page) (refill-is P res back-pages few-back one frames)
            ∙ refilled-either P one two res page long (λ p h. other-page P (omega arith) two page p long h) back-pages frames frames refl
            ∙ ap (λ (b : List ℕ). with_frame P b k page) (sym (reverted-frames P list here id))

        module _ (t : Inserted) (set : t ≡ inserted 256 s.table entry) where
          full : t.number ≡ cond (ltb 256 (length mem.table)) 7 0
          full = rw mem_is (ended-no P s log db clog frames e0 z entry t set)

          rollback-left : (n : ℕ) → n ≡ raised s.pages back-pages → t.number ≡ 0 →
              ended_store s n s.time t.table ≡ laid_store s (record { files = here.files; frames = frames; mem = mem })
          rollback-left n e h = rw (e, mem_is) (ended-left P s log db clog frames e0 z entry t set (raised s.pages back-pages) s.time h)

          raised-back : (back : Picked) → back ≡ picked → raised_by back s.pages ≡ raised s.pages back-pages
          raised-back back e = ap (λ (x : Picked). raised_by x s.pages) (e ∙ picked-is) ∙ raised_is P (resident_of s.frames) back-pages few-back good-back s.pages

          pub rollback-out : (plan : Plan) (m : Counters) (back : Picked) (n : ℕ) (u : Store) (r : Ready) → plan ≡ planned m → m ≡ counters_of s → back ≡ picked →
              n ≡ raised_by back s.pages → u ≡ ended_store s n s.time t.table → r ≡ sealed_as P s u t.number plan back log db clog frames →
              readied P r log db clog frames ≡ ready_for P (Rollback list) s log db clog frames
          unfolding plan_of
          rollback-out plan m back n u r a b d f g k =
              let p : plan ≡ planned (counters_of s) = a ∙ ap planned b in
              let res : mem.resident ≡ resident_of s.frames = ap (λ (x : Mem). x.resident) mem_is in
              let few : length mem.touched ≤ 64 = rw mem_is (omega arith) in
              let meta : meta_of P plan.meta ≡ page = ap (λ (x : Plan). meta_of P x.meta) p ∙ rw mem_is in
              sealed-ready P (Rollback list) s log db clog frames e0 z big own (back_files P list here id).db mem (reverted P list here id) (rollback-keeps P list here id in-slot) size res few plan back
              (ap (meant P frames) p ∙ plan-means) t.number full u (λ e. g ∙ rollback-left n (f ∙ raised-back back d) e) meta (given back d) r k
