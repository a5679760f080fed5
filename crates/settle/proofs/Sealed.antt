-- Laws of the calls that end with page 0: its slot and its seat, and one law for all ways out of making such a call ready. Assumes nothing.
use Prim.Native.Nat.{ℕ, zero, suc, ◌≤◌, max}
use native.Mathlib.Omega.{arith}
use mathlib.Core.Path.{◌≡◌, refl, sym, ap, ◌∙◌}
use mathlib.Core.List.{List, []}
use mathlib.Core.Bool.{Bool, true, false, cond}
use lib.ListN.{length}
use lib.Dec.{ltb}
use lib.Seq.{take_all}
use Rattle.fields.specs.declared.CommitTime.{CommitTime}
use Rattle.fields.specs.Files.{File}
use Rattle.fields.proofs.Tests.{Order, less, most, order}
use Rattle.table.specs.declared.Entry.{Entry}
use Rattle.table.specs.Entries.{Inserted, insert_entry, list_of, laid, inserted}
use Rattle.table.proofs.Facts.{accepted-fits, bounded-yes}
use Rattle.meta.specs.Page.{meta_page}
use Rattle.frames.specs.declared.Frames.{Frames}
use Rattle.std.specs.Prelude.{Option, Some, None}
use Rattle.std.specs.Option.{unwrap_or}
use Rattle.frames.specs.Pages as pages
use Rattle.frames.specs.Pages.{is_in, slot_of, with_page, laid_frames, frame_count, place_told, found_in, Seated, seated}
use Rattle.frames.specs.Copies.{with_frame}
use Rattle.frames.proofs.Lists.{slot-absent, with-old, with-new}
use Rattle.frames.proofs.Values.{at-means, nowhere-means, seat-old, seat-new, seat-full}
use Rattle.world.specs.declared.Slot.TheVariants.{Empty}
use Rattle.world.specs.World.{Files, Mem, World, files_of, with_counts, with_resident}
use Rattle.world.specs.Steps.{Step, apply_all}
use Rattle.world.specs.Calls.{Call, steps, keeps, meta_written}
use Rattle.world.specs.Refusals.{argument_no, hold_no, call_no, front_no}
use Rattle.world.proofs.FrameLaws.{meta-mem, meta-frames, meta-frames-size}
use Rattle.world.proofs.CallLaws.{seated-number, inserted-number}
use Rattle.picks.specs.declared.Picked.{Picked}
use Rattle.stores.specs.declared.Plan.{Plan}
use Rattle.stores.specs.Plans.{meant}
use Rattle.stores.specs.Room.{number_for}
use Rattle.form.specs.declared.Store.{Store}
use Rattle.form.specs.Store.{entries_of, resident_of, world_of, laid_store}
use Rattle.form.proofs.Arrays.{Sized, length-first}
use Rattle.form.proofs.Front.{front-means, entries-are, resident-length, resident-are, frames-same}
use Rattle.ready.specs.declared.Ready.{Ready}
use Rattle.ready.specs.Ready.{readied, meta_of, refill, files_to, idle, with_meta}
use Rattle.ready.specs.Inside.{remembered, ready_for}
use Rattle.ready.proofs.Prepared.{some-carried, meta-is, ready-as, front-call, ready-no, ready-short, call-hold}
use Rattle.settle.specs.Inside.{ended_store, slot_for, sealed_store, unless, sealed_as}

-- ---- the slot of a page's frame

pub slot-out : (p : ℕ) (f : Frames) (place : Option ℕ) → place_told place ≡ found_in p (pages.resident_of f) → unwrap_or place f.count ≡ slot_for p f
unfolding slot_for
slot-out p f (Some slot) told = let m = at-means p (pages.resident_of f) slot told in rw m.0 m.1
slot-out p f None told = rw (nowhere-means p (pages.resident_of f) told)

-- ---- a refusal on the way

module _ (s : Store) (r x : Ready) where
  pub unless-no : (n : ℕ) → (n ≡ 0 → ⊥) → x ≡ idle n s → x ≡ unless n s r
  unless-no zero h e = absurd (h refl)
  unless-no (suc n) h e = e

  pub unless-yes : (n : ℕ) → n ≡ 0 → x ≡ r → x ≡ unless n s r
  unless-yes n h e = e ∙ rw h

-- the ways out of a seal

module _ (P : ℕ) (s u : Store) (tn : ℕ) (plan : Plan) (back : Picked) (log db clog frames : List ℕ) (r : Ready) (n : ℕ)
    (room : n ≡ number_for P (meant P frames plan) (files_of s.lens log db clog)) where
  abbrev seat_of : Seated
  seat_of = seated 64 P s.frames (length frames) 0

  abbrev end : Seated → Ready
  end g = with_meta plan back (slot_for 0 s.frames) (sealed_store u g.frames)

  pub seal-short : r ≡ idle n s → (n ≡ 0 → ⊥) → r ≡ sealed_as P s u tn plan back log db clog frames
  unfolding sealed_as
  seal-short i h = let rest = unless tn s (unless seat_of.number s (end seat_of)) in unless-no s rest r n h i ∙ ap (λ (k : ℕ). unless k s rest) room

  module _ (ok : n ≡ 0) where
    fits : (x : Ready) → r ≡ x → r ≡ unless (number_for P (meant P frames plan) (files_of s.lens log db clog)) s x
    fits x e = unless-yes s x r n ok e ∙ ap (λ (k : ℕ). unless k s x) room

    pub seal-table : r ≡ idle tn s → (tn ≡ 0 → ⊥) → r ≡ sealed_as P s u tn plan back log db clog frames
    unfolding sealed_as
    seal-table i h = let rest = unless seat_of.number s (end seat_of) in fits (unless tn s rest) (unless-no s rest r tn h i)

    module _ (fine : tn ≡ 0) (g : Seated) (sat : g ≡ seat_of) where
      pub seal-seat : r ≡ idle g.number s → (g.number ≡ 0 → ⊥) → r ≡ sealed_as P s u tn plan back log db clog frames
      unfolding sealed_as
      seal-seat i h =
          let step = unless-no s (end g) r g.number h i ∙ ap (λ (x : Seated). unless x.number s (end x)) sat in
          fits (unless tn s (unless seat_of.number s (end seat_of))) (unless-yes s (unless seat_of.number s (end seat_of)) r tn fine step)

      pub seal-out : (slot pages : ℕ) → g.number ≡ 0 → slot ≡ slot_for 0 s.frames → pages ≡ max u.pages 1 →
          r ≡ with_meta plan back slot (record {
            lens = u.lens;
            pages = pages;
            next = u.next;
            time = u.time;
            mark = u.mark;
            table = u.table;
            frames = g.frames;
            held = u.held;
          }) → r ≡ sealed_as P s u tn plan back log db clog frames
      unfolding sealed_as sealed_store
      seal-out slot pages free a b i =
          let e : r ≡ end g = i ∙ rw (a, b) in
          let step = unless-yes s (end g) r g.number free e ∙ ap (λ (x : Seated). unless x.number s (end x)) sat in
          fits (unless tn s (unless seat_of.number s (end seat_of))) (unless-yes s (unless seat_of.number s (end seat_of)) r tn fine step)

-- ---- the seat of page p

module _ (P p : ℕ) (f : Frames) (size : ℕ) where
  abbrev list : List ℕ
  list = pages.resident_of f

  abbrev most-frames : ℕ
  most-frames = frame_count 64 P size

  laid-seat : laid_frames f list ≡ f → (seated 64 P f size p).number ≡ 0 → (seated 64 P f size p).frames ≡ laid_frames f (with_page p list)
  laid-seat same e = go (is_in p list) refl (order (length list) most-frames)
    where
      go : (b : Bool) → is_in p list ≡ b → Order (length list) most-frames → (seated 64 P f size p).frames ≡ laid_frames f (with_page p list)
      go true h o = ap (λ (r : Seated). r.frames) (seat-old 64 P f size p h) ∙ sym (ap (laid_frames f) (with-old p list h) ∙ same)
      go false h (less k) = ap (λ (r : Seated). r.frames) (seat-new 64 P f size p h k) ∙ sym (ap (laid_frames f) (with-new p list h))
      go false h (most k) =
          let y : ◌≡◌ {A = ℕ} 8 0 = sym (ap (λ (r : Seated). r.number) (seat-full 64 P f size p h k)) ∙ e in
          absurd (omega arith)

module _ (P p : ℕ) (s : Store) (log db clog frames : List ℕ) (e0 : front_no P (world_of s log db clog frames) ≡ 0) (z : Sized s) where
  resident-same : resident_of s.frames ≡ pages.resident_of s.frames
  resident-same = resident-are P s log db clog frames (front-means P s log db clog frames e0) z

  slot_is : slot_for p s.frames ≡ slot_of p (resident_of s.frames)
  unfolding slot_for
  slot_is = rw (← resident-same) (go (is_in p (resident_of s.frames)) refl)
    where
      go : (b : Bool) → is_in p (resident_of s.frames) ≡ b → cond b (slot_of p (resident_of s.frames)) s.frames.count ≡ slot_of p (resident_of s.frames)
      go true h = refl
      go false h = sym (slot-absent p (resident_of s.frames) h ∙ length-first 0 s.frames.count s.frames.pages)

  seat-laid : (seated 64 P s.frames (length frames) p).number ≡ 0 →
      (seated 64 P s.frames (length frames) p).frames ≡ laid_frames s.frames (with_page p (resident_of s.frames))
  seat-laid e =
      let f = s.frames in
      let l : laid_frames f (pages.resident_of f) ≡ f = rw (← resident-same) (frames-same P s log db clog frames (front-means P s log db clog frames e0) z) in
      rw resident-same (laid-seat P p f (length frames) l e)

-- ---- 7 and then 8

seven : (t : Bool) (k n : ℕ) → suc k ≡ cond t 7 0 → cond t 7 n ≡ suc k
seven true k n e = sym e
seven false k n e = absurd (omega arith)

past-seven : (t : Bool) (n : ℕ) → ◌≡◌ {A = ℕ} (cond t 7 0) 0 → cond t 7 n ≡ n
past-seven true n e = absurd (omega arith)
past-seven false n e = refl

-- ---- such a call: it would leave the memory m, and page 0 is written in a world v whose frames may have changed

module _ (P : ℕ) (c : Call) (s : Store) (log db clog frames : List ℕ) (e0 : front_no P (world_of s log db clog frames) ≡ 0) (z : Sized s) (big : 36 ≤ P)
    (own : argument_no c (world_of s log db clog frames) ≡ 0) (file : File) (m : Mem) (v : World)
    (kept : keeps P c (world_of s log db clog frames) ≡ meta_written P file m v) (size : length v.frames ≡ length frames)
    (res : m.resident ≡ resident_of s.frames) (few : length m.touched ≤ 64) where
  abbrev here : World
  here = world_of s log db clog frames

  abbrev seat : Seated
  seat = seated 64 P s.frames (length frames) 0

  abbrev page : List ℕ
  page = meta_page P m.next.0 m.time.0 m.mark.0

  after-mem : (keeps P c here).mem ≡ with_counts (max m.pages 1) m.next m.time m.mark (with_resident (with_page 0 m.resident) m)
  after-mem = ap (λ (w : World). w.mem) kept ∙ meta-mem P file m v

  after-size : length (keeps P c here).frames ≡ length frames
  after-size = ap (λ (w : World). length w.frames) kept ∙ meta-frames-size P file m v ∙ size

  after-frames : (keeps P c here).frames ≡ with_frame P v.frames (slot_of 0 (resident_of s.frames)) page
  after-frames =
      ap (λ (w : World). w.frames) kept ∙ meta-frames P file m v big ∙ ap (λ (ps : List ℕ). with_frame P v.frames (slot_of 0 ps) page) res

  touched-few : length (keeps P c here).mem.touched ≤ 64
  touched-few = omega (arith, ap (λ (x : Mem). length x.touched) after-mem, few)

  hold-is : hold_no P (keeps P c here) ≡ cond (ltb 256 (length m.table)) 7 seat.number
  unfolding hold_no
  hold-is =
      let same = resident-same P 0 s log db clog frames e0 z in
      let i : length (pages.resident_of s.frames) ≤ frame_count 64 P (length frames) =
      rw (← same) (resident-length P s log db clog frames (front-means P s log db clog frames e0)) in
      let a : (keeps P c here).mem.table ≡ m.table = ap (λ (x : Mem). x.table) after-mem in
      let b : (keeps P c here).mem.resident ≡ with_page 0 (pages.resident_of s.frames) = ap (λ (x : Mem). x.resident) after-mem ∙ ap (with_page 0) (res ∙ same) in
      rw (a, b, after-size, seated-number 64 P s.frames (length frames) 0 i)

  module _ (plan : Plan) (back : Picked) (stores : meant P frames plan ≡ steps P c here) (tn : ℕ) (table-no : tn ≡ cond (ltb 256 (length m.table)) 7 0)
      (u : Store) (left : tn ≡ 0 → u ≡ laid_store s (record { files = here.files; frames = frames; mem = m })) (meta : meta_of P plan.meta ≡ page)
      (given : with_frame P (refill P (apply_all P (steps P c here) here.files).db back frames) (slot_of 0 (resident_of s.frames)) page ≡
      with_frame P v.frames (slot_of 0 (resident_of s.frames)) page) where
    abbrev short : ℕ
    short = number_for P (meant P frames plan) (files_of s.lens log db clog)

    hold : short ≡ 0 → call_no P c here ≡ cond (ltb 256 (length m.table)) 7 seat.number
    hold e = call-hold P c s log db clog frames e0 own touched-few (meant P frames plan) stores e ∙ hold-is

    -- what it remembers
    sealed-store : tn ≡ 0 → seat.number ≡ 0 → sealed_store u seat.frames ≡ remembered P c s here
    unfolding sealed_store laid_store
    sealed-store e d =
        let f = seat-laid P 0 s log db clog frames e0 z d in
        let mem = with_counts (max m.pages 1) m.next m.time m.mark (with_resident (with_page 0 m.resident) m) in
        let mid : sealed_store (laid_store s (record { files = here.files; frames = frames; mem = m })) seat.frames ≡
        laid_store s (record { files = here.files; frames = (keeps P c here).frames; mem = mem }) =
        rw (f, res) in
        ap (λ (x : Store). sealed_store x seat.frames) (left e)
        ∙ mid
        ∙ sym (ap (λ (x : Mem). laid_store s (record { files = here.files; frames = (keeps P c here).frames; mem = x })) after-mem)

    same-lens : tn ≡ 0 → u.lens ≡ s.lens
    unfolding laid_store world_of
    same-lens e = ap (λ (x : Store). x.lens) (left e)

    -- the files that its stores leave
    end-files : tn ≡ 0 → short ≡ 0 → files_to P (length (meant P frames plan)) (meant P frames plan) u.lens log db clog ≡ apply_all P (steps P c here) here.files
    unfolding world_of
    end-files e d =
        let ss = meant P frames plan in
        let f = files_of s.lens log db clog in
        rw (same-lens e) (some-carried P (length ss) ss f d)
        ∙ ap (λ (x : List Step). apply_all P x f) (take_all (length ss) ss (omega arith) ∙ stores)

    sealed-frames : tn ≡ 0 → short ≡ 0 →
        with_frame P (refill P (files_to P (length (meant P frames plan)) (meant P frames plan) u.lens log db clog).db back frames) (slot_for 0 s.frames) (meta_of P plan.meta) ≡
        (keeps P c here).frames
    sealed-frames e d =
        ap (λ (f : Files). with_frame P (refill P f.db back frames) (slot_for 0 s.frames) (meta_of P plan.meta)) (end-files e d)
        ∙ rw (slot_is P 0 s log db clog frames e0 z, meta) (given ∙ sym after-frames)

    sealed-out : tn ≡ 0 → short ≡ 0 → seat.number ≡ 0 →
        readied P (with_meta plan back (slot_for 0 s.frames) (sealed_store u seat.frames)) log db clog frames ≡ ready_for P c s log db clog frames
    unfolding sealed_store
    sealed-out e d f =
        let t = sealed_store u seat.frames in
        meta-is P log db clog frames plan back (slot_for 0 s.frames) t
        ∙ ready-as P c s log db clog frames (meant P frames plan) t _ stores (sealed-store e f) (sealed-frames e d)
        (front-call P c s log db clog frames e0 ∙ hold d ∙ past-seven (ltb 256 (length m.table)) seat.number (sym table-no ∙ e) ∙ f)

    pub sealed-ready : (r : Ready) → r ≡ sealed_as P s u tn plan back log db clog frames → readied P r log db clog frames ≡ ready_for P c s log db clog frames
    unfolding sealed_as
    sealed-ready r i = go short tn seat.number refl refl refl i
      where
        go : (n k g : ℕ) → short ≡ n → tn ≡ k → seat.number ≡ g →
            r ≡ unless n s (unless k s (unless g s (with_meta plan back (slot_for 0 s.frames) (sealed_store u seat.frames)))) →
            readied P r log db clog frames ≡ ready_for P c s log db clog frames
        go (suc n) k g a b d i =
            ready-short P c s log db clog frames e0 own touched-few (meant P frames plan) stores r (suc n) i (sym a) (λ e. omega arith)
        go zero (suc k) g a b d i =
            ready-no P c s log db clog frames e0 r k i (hold a ∙ seven (ltb 256 (length m.table)) k seat.number (sym b ∙ table-no))
        go zero zero (suc g) a b d i =
            ready-no P c s log db clog frames e0 r g i (hold a ∙ past-seven (ltb 256 (length m.table)) seat.number (sym table-no ∙ b) ∙ d)
        go zero zero zero a b d i = ap (λ (x : Ready). readied P x log db clog frames) i ∙ sealed-out b a d

-- ---- what ends a transaction leaves, before page 0: the id's status is set, the place is emptied

module _ (P : ℕ) (s : Store) (log db clog frames : List ℕ) (e0 : front_no P (world_of s log db clog frames) ≡ 0) (z : Sized s) (e : Entry) (t : Inserted)
    (set : t ≡ inserted 256 s.table e) where
  listed : insert_entry e (list_of s.table) ≡ insert_entry e (entries_of s.table)
  listed = sym (ap (insert_entry e) (entries-are P s log db clog frames (front-means P s log db clog frames e0) z))

  pub ended-no : t.number ≡ cond (ltb 256 (length (insert_entry e (entries_of s.table)))) 7 0
  ended-no =
      ap (λ (x : Inserted). x.number) set ∙ inserted-number 256 s.table e ∙ ap (λ (l : List Entry). cond (ltb 256 (length l)) 7 0) listed

  pub ended-left : (pages : ℕ) (time : CommitTime) → t.number ≡ 0 →
      ended_store s pages time t.table ≡ laid_store s (record {
        files = (world_of s log db clog frames).files;
        frames = frames;
        mem = record {
          pages = pages;
          next = s.next;
          time = time;
          mark = s.mark;
          table = insert_entry e (entries_of s.table);
          resident = resident_of s.frames;
          slot = Empty;
          touched = [];
        };
      })
  unfolding ended_store laid_store world_of inserted
  ended-left pages time h =
      let l = insert_entry e (list_of s.table) in
      let few = accepted-fits 256 s.table l (sym (ap (λ (x : Inserted). x.number) set) ∙ h) in
      let tab : t.table ≡ laid s.table l = ap (λ (x : Inserted). x.table) (set ∙ bounded-yes 256 s.table l few) in
      rw (tab, listed, frames-same P s log db clog frames (front-means P s log db clog frames e0) z)
