-- Laws of reading and writing a page: its seat, the ways out of the code, and that a frame which is written whole need not be filled first. Assumes nothing.
use Prim.Native.Nat.{ℕ, ◌+◌, ◌*◌, ◌≤◌, ◌<◌, max}
use native.Mathlib.Omega.{arith}
use mathlib.Core.Path.{◌≡◌, refl, sym, ap, ◌∙◌}
use mathlib.Core.List.{List, [], ◌∷◌}
use mathlib.Core.Bool.{Bool, true, false, cond}
use lib.ListN.{length, replicate, length-append}
use lib.Dec.{ltb}
use lib.Seq.{sets, length-sets}
use borrow.Author.Tests.{le-leb, lt-leb, le-ltb, lt-ltb}
use Rattle.std.specs.Prelude.{Option, Some, None, Result, Err}
use Rattle.std.specs.Option.{is_some, unwrap_or}
use Rattle.std.specs.Result.{IsErr, IsErrAnd}
use Rattle.fields.specs.declared.refusal.Refusal.{Refusal}
use Rattle.fields.specs.Refusals.{number_of}
use Rattle.fields.proofs.AnswerLaws.{number-positive, handed-on}
use Rattle.fields.specs.Bytes.{part}
use Rattle.fields.specs.Files.{file_of}
use Rattle.fields.proofs.Tests.{Order, less, most, order}
use Rattle.fields.proofs.ByteLaws.{part-whole}
use Rattle.fields.proofs.Stored.{sets-again}
use Rattle.frames.specs.declared.Frames.{Frames}
use Rattle.frames.specs.Pages as pages
use Rattle.frames.specs.Pages.{is_in, slot_of, with_page, laid_frames, frame_count, place_told, found_in, Seated, seated_as, seated}
use Rattle.frames.specs.Copies.{page_of}
use Rattle.frames.proofs.Lists.{slot-absent, with-old, with-new, with-slot}
use Rattle.frames.proofs.Values.{at-means, nowhere-means, seat-old, seat-new, seat-full, seat-refused}
use Rattle.frames.proofs.CopyLaws.{length-page}
use Rattle.world.specs.Steps.{apply_all}
use Rattle.world.specs.Calls.{Read, Write, steps, keeps, seat, write, held_page}
use Rattle.world.specs.Refusals.{argument_no, call_no, hold_no, front_no, refuses}
use Rattle.world.specs.Run.{done}
use Rattle.form.specs.declared.Store.{Store}
use Rattle.form.specs.Store.{resident_of, mem_of, world_of, laid_store, changed, outcome, ending, called, value_in, changed_in, given}
use Rattle.form.proofs.Arrays.{Sized, length-first}
use Rattle.form.proofs.Front.{InForm, front-means, entries-length, touched-length, resident-length, resident-are, table_same, frames-same, touched-same}
use Rattle.form.proofs.Called.{accepted, quiet_is, handed-accepted}
use Rattle.quiet.specs.declared.Seat.{Seat}
use Rattle.quiet.specs.Handed.{page_read}
use Rattle.quiet.specs.Inside.{SeatTold, seat_told, seat_of}
use Rattle.quiet.proofs.Refused.{decided-refused, by-call, refused-on, handed-out}

-- ---- a page's seat: it has one, it takes the next frame, or there is none

module _ (P : ℕ) (p : ℕ) (s : Store) (log db clog frames : List ℕ) where
  data Ways : Type 0 where
    old : is_in p (pages.resident_of s.frames) ≡ true → Ways
    new : is_in p (pages.resident_of s.frames) ≡ false → length (pages.resident_of s.frames) < frame_count 64 P (length frames) → Ways
    full : is_in p (pages.resident_of s.frames) ≡ false → frame_count 64 P (length frames) ≤ length (pages.resident_of s.frames) → Ways

  ways : Ways
  ways = go (is_in p (pages.resident_of s.frames)) refl (order (length (pages.resident_of s.frames)) (frame_count 64 P (length frames)))
    where
      go : (b : Bool) → is_in p (pages.resident_of s.frames) ≡ b → Order (length (pages.resident_of s.frames)) (frame_count 64 P (length frames)) → Ways
      go true h o = old h
      go false h (less k) = new h k
      go false h (most k) = full h k

  read-10 : 4294967295 ≤ p → call_no P (Read p) (world_of s log db clog frames) ≡ 10
  unfolding call_no argument_no
  read-10 h = rw (le-leb 4294967295 p h)

  -- a page keeps the frame buffer's size
  seat-length : length (seat P (file_of db s.lens.db) p (world_of s log db clog frames)).frames ≡ length frames
  unfolding seat world_of mem_of
  seat-length = go (is_in p (resident_of s.frames))
    where
      go : (b : Bool) →
          length (cond b frames (sets frames (length (resident_of s.frames) * P) (page_of P (file_of db s.lens.db) p))) ≡ length frames
      go true = refl
      go false = length-sets frames (length (resident_of s.frames) * P) (page_of P (file_of db s.lens.db) p)

  module _ (good : p < 4294967295) (i : InForm P s log db clog frames) where
    read-hold : call_no P (Read p) (world_of s log db clog frames) ≡
        cond (ltb (frame_count 64 P (length frames)) (length (with_page p (resident_of s.frames)))) 8 0
    unfolding argument_no hold_no steps keeps seat world_of mem_of
    read-hold =
        quiet_is P (Read p) s log db clog frames i (rw (lt-leb 4294967295 p good)) refl (touched-length P s log db clog frames i)
        ∙ rw (le-ltb 256 _ (entries-length P s log db clog frames i), seat-length)

    module _ (z : Sized s) where
      same : resident_of s.frames ≡ pages.resident_of s.frames
      same = resident-are P s log db clog frames i z

      -- a seat is refused with 8 where the list would be longer than there are frames
      read-8 : ((seated 64 P s.frames (length frames) p).number ≡ 0 → ⊥) → call_no P (Read p) (world_of s log db clog frames) ≡ 8
      read-8 n = go ways
        where
          go : Ways → call_no P (Read p) (world_of s log db clog frames) ≡ 8
          go (old h) = absurd (n (ap (λ (r : Seated). r.number) (seat-old 64 P s.frames (length frames) p h)))
          go (new h k) = absurd (n (ap (λ (r : Seated). r.number) (seat-new 64 P s.frames (length frames) p h k)))
          go (full h k) =
              let l = pages.resident_of s.frames in
              let m : length (with_page p l) ≡ length l + 1 = ap length (with-new p l h) ∙ length-append l (p ∷ []) in
              read-hold ∙ rw (same, m, lt-ltb (frame_count 64 P (length frames)) (length l + 1) (omega arith))

      read-0 : (seated 64 P s.frames (length frames) p).number ≡ 0 → call_no P (Read p) (world_of s log db clog frames) ≡ 0
      read-0 e = go ways
        where
          go : Ways → call_no P (Read p) (world_of s log db clog frames) ≡ 0
          go (old h) =
              let l = pages.resident_of s.frames in
              let few : length l ≤ frame_count 64 P (length frames) = rw (← same) (resident-length P s log db clog frames i) in
              read-hold ∙ rw (same, with-old p l h, le-ltb (frame_count 64 P (length frames)) (length l) few)
          go (new h k) =
              let l = pages.resident_of s.frames in
              let m : length (with_page p l) ≡ length l + 1 = ap length (with-new p l h) ∙ length-append l (p ∷ []) in
              read-hold ∙ rw (same, m, le-ltb (frame_count 64 P (length frames)) (length l + 1) (omega arith))
          go (full h k) =
              let y : ◌≡◌ {A = ℕ} 8 0 = sym (ap (λ (r : Seated). r.number) (seat-full 64 P s.frames (length frames) p h k)) ∙ e in
              absurd (omega arith)

      -- the frames of an accepted seat are the list with the page, laid over the array
      seat-frames : (seated 64 P s.frames (length frames) p).number ≡ 0 →
          laid_frames s.frames (with_page p (resident_of s.frames)) ≡ (seated 64 P s.frames (length frames) p).frames
      seat-frames e = go ways
        where
          go : Ways → laid_frames s.frames (with_page p (resident_of s.frames)) ≡ (seated 64 P s.frames (length frames) p).frames
          go (old h) =
              let k : is_in p (resident_of s.frames) ≡ true = rw same h in
              ap (laid_frames s.frames) (with-old p (resident_of s.frames) k)
              ∙ frames-same P s log db clog frames i z
              ∙ sym (ap (λ (r : Seated). r.frames) (seat-old 64 P s.frames (length frames) p h))
          go (new h k) =
              ap (λ (l : List ℕ). laid_frames s.frames (with_page p l)) same
              ∙ ap (laid_frames s.frames) (with-new p (pages.resident_of s.frames) h)
              ∙ sym (ap (λ (r : Seated). r.frames) (seat-new 64 P s.frames (length frames) p h k))
          go (full h k) =
              let y : ◌≡◌ {A = ℕ} 8 0 = sym (ap (λ (r : Seated). r.number) (seat-full 64 P s.frames (length frames) p h k)) ∙ e in
              absurd (omega arith)

      -- the store with the page resident and the page count raised past it
      seat-store : (seated 64 P s.frames (length frames) p).number ≡ 0 →
          laid_store s (done P (Read p) (world_of s log db clog frames)) ≡
          record {
            lens = s.lens;
            pages = max s.pages (p + 1);
            next = s.next;
            time = s.time;
            mark = s.mark;
            table = s.table;
            frames = (seated 64 P s.frames (length frames) p).frames;
            held = s.held;
          }
      unfolding done apply_all steps keeps seat laid_store world_of mem_of
      seat-store e =
          rw (
            table_same P s log db clog frames i z,
            ← seat-frames e,
            touched-same s.held.touched z.touched i.touched,
          )

-- ---- the ways out of the seat

module _ (P : ℕ) (p : ℕ) (s : Store) (log db clog frames : List ℕ) where
  -- a seat tells the number of the call
  pub seat-number : (x : SeatTold) → x ≡ seat_of P p s log db clog frames → refuses P (Read p) (world_of s log db clog frames) ≡ x.number
  unfolding seat_of
  seat-number x e = sym (ap (λ (y : SeatTold). y.number) e)

  pub seat-with : (r : Refusal) → refuses P (Read p) (world_of s log db clog frames) ≡ number_of r → seat_told s (Err r) ≡ seat_of P p s log db clog frames
  unfolding seat_of
  seat-with r e =
      let w = world_of s log db clog frames in
      rw (
        e,
        decided-refused (is_in p w.mem.resident) true r,
        decided-refused (slot_of p w.mem.resident) 0 r,
        decided-refused (laid_store s (done P (Read p) w)) s r,
      )

  -- what `?` hands on
  pub seat-on : (x : Result Seat Refusal) (r : Refusal) → IsErr x × IsErrAnd x (λ e. e ≡ r) →
      refuses P (Read p) (world_of s log db clog frames) ≡ number_of r → seat_told s x ≡ seat_of P p s log db clog frames
  seat-on x r h e = ap (seat_told s) (handed-on x r h) ∙ seat-with r e

  seat-is : refuses P (Read p) (world_of s log db clog frames) ≡ 0 →
      seat_of P p s log db clog frames ≡
      record {
        number = 0;
        there = is_in p (resident_of s.frames);
        slot = slot_of p (resident_of s.frames);
        store = laid_store s (done P (Read p) (world_of s log db clog frames));
      }
  unfolding seat_of world_of mem_of
  seat-is e = rw e

  module _ (e0 : 0 ≡ front_no P (world_of s log db clog frames)) where
    pub seat-10 : 4294967295 ≤ p → refuses P (Read p) (world_of s log db clog frames) ≡ 10
    seat-10 h = by-call P (Read p) s log db clog frames 10 e0 (read-10 P p s log db clog frames h)

    module _ (good : p < 4294967295) (z : Sized s) where
      i : InForm P s log db clog frames
      i = front-means P s log db clog frames (sym e0)

      -- no frame is left
      pub seat-8 : (r : Refusal) → seated_as (number_of r) s.frames ≡ seated 64 P s.frames (length frames) p →
          refuses P (Read p) (world_of s log db clog frames) ≡ number_of r
      seat-8 r is =
          let k : number_of r ≡ (seated 64 P s.frames (length frames) p).number = ap (λ (x : Seated). x.number) is in
          let n : (seated 64 P s.frames (length frames) p).number ≡ 0 → ⊥ = λ e. omega (arith, e, k, number-positive r) in
          let m : number_of r ≡ 8 = k ∙ ap (λ (x : Seated). x.number) (seat-refused 64 P s.frames (length frames) p n) in
          by-call P (Read p) s log db clog frames 8 e0 (read-8 P p s log db clog frames good i z n) ∙ sym m

      -- a page's place among the resident ones, and for a new page the next
      place-is : (place : Option ℕ) → place_told place ≡ found_in p (pages.resident_of s.frames) →
          (is_some place ≡ is_in p (resident_of s.frames)) × (unwrap_or place s.frames.count ≡ slot_of p (resident_of s.frames))
      place-is (Some slot) e =
          let m = at-means p (pages.resident_of s.frames) slot e in
          (rw (resident-are P s log db clog frames i z) (sym m.0), rw (resident-are P s log db clog frames i z) m.1)
      place-is None e =
          let n : is_in p (resident_of s.frames) ≡ false = rw (resident-are P s log db clog frames i z) (nowhere-means p (pages.resident_of s.frames) e) in
          (sym n, sym (slot-absent p (resident_of s.frames) n ∙ length-first 0 s.frames.count s.frames.pages))

      pub seat-out : (f : Frames) → seated_as 0 f ≡ seated 64 P s.frames (length frames) p → (k : ℕ) → k ≡ max s.pages (p + 1) →
          (place : Option ℕ) → place_told place ≡ found_in p (pages.resident_of s.frames) →
          (b : Bool) (slot : ℕ) → b ≡ is_some place → slot ≡ unwrap_or place s.frames.count →
          ◌≡◌ {A = SeatTold}
          (record {
            number = 0;
            there = b;
            slot = slot;
            store = record {
              lens = s.lens;
              pages = k;
              next = s.next;
              time = s.time;
              mark = s.mark;
              table = s.table;
              frames = f;
              held = s.held;
            };
          })
          (seat_of P p s log db clog frames)
      seat-out f is k up place found b slot eb es =
          let n0 : (seated 64 P s.frames (length frames) p).number ≡ 0 = sym (ap (λ (x : Seated). x.number) is) in
          let rf : f ≡ (seated 64 P s.frames (length frames) p).frames = ap (λ (x : Seated). x.frames) is in
          let none : refuses P (Read p) (world_of s log db clog frames) ≡ 0 = by-call P (Read p) s log db clog frames 0 e0 (read-0 P p s log db clog frames good i z n0) in
          let at = place-is place found in
          rw (seat-is none, seat-store P p s log db clog frames good i z n0, eb, es, at.0, at.1, rf, up)

-- ---- reading and writing

module _ (P : ℕ) (p : ℕ) (s : Store) (log db clog frames : List ℕ) where
  abbrev filed : List ℕ
  filed = page_of P (file_of db s.lens.db) p

  -- a read changes the frame of a page that was not there
  read-frames : cond (is_in p (resident_of s.frames)) frames (sets frames (slot_of p (resident_of s.frames) * P) filed) ≡
      (done P (Read p) (world_of s log db clog frames)).frames
  unfolding done keeps seat world_of mem_of
  read-frames = go (is_in p (resident_of s.frames)) refl
    where
      go : (b : Bool) → is_in p (resident_of s.frames) ≡ b →
          cond b frames (sets frames (slot_of p (resident_of s.frames) * P) filed) ≡ cond b frames (sets frames (length (resident_of s.frames) * P) filed)
      go true h = refl
      go false h = rw (slot-absent p (resident_of s.frames) h)

  -- and hands out the page's frame
  read-bytes : part P (done P (Read p) (world_of s log db clog frames)).frames (slot_of p (resident_of s.frames) * P) ≡
      held_page P (done P (Read p) (world_of s log db clog frames)) p
  unfolding held_page done keeps seat world_of mem_of
  read-bytes = rw (with-slot p (resident_of s.frames))

  read-called : refuses P (Read p) (world_of s log db clog frames) ≡ 0 →
      outcome (record { number = 0; store = laid_store s (done P (Read p) (world_of s log db clog frames)) }) log db clog
      (done P (Read p) (world_of s log db clog frames)).frames ≡ called P (Read p) s log db clog frames
  unfolding done apply_all steps world_of
  read-called e = files-same ∙ sym (accepted P (Read p) s s log db clog frames e)
    where
      files-same : outcome (record { number = 0; store = laid_store s (done P (Read p) (world_of s log db clog frames)) }) log db clog
          (done P (Read p) (world_of s log db clog frames)).frames ≡
          (let v = done P (Read p) (world_of s log db clog frames) in ending 0 (laid_store s v) v)
      files-same = refl

  pub read-refused : (x : Result (List ℕ × Store) Refusal) (r : Refusal) → IsErr x × IsErrAnd x (λ e. e ≡ r) →
      seat_told s (Err r) ≡ seat_of P p s log db clog frames →
      given (value_in (replicate P 0) x) (changed_in s x) log db clog frames ≡ page_read P p s log db clog frames
  unfolding page_read
  read-refused x r h e =
      handed-out P (Read p) s log db clog frames (held_page P (done P (Read p) (world_of s log db clog frames)) p) (replicate P 0) x r h
      (seat-number P p s log db clog frames _ e)

  module _ (seat : SeatTold) (is : seat ≡ seat_of P p s log db clog frames) (ok : seat.number ≡ 0) where
    none : refuses P (Read p) (world_of s log db clog frames) ≡ 0
    unfolding seat_of
    none = sym (ap (λ (x : SeatTold). x.number) is) ∙ ok

    there-is : seat.there ≡ is_in p (resident_of s.frames)
    there-is = ap (λ (x : SeatTold). x.there) (is ∙ seat-is P p s log db clog frames none)

    slot_is : seat.slot ≡ slot_of p (resident_of s.frames)
    slot_is = ap (λ (x : SeatTold). x.slot) (is ∙ seat-is P p s log db clog frames none)

    store_is : seat.store ≡ laid_store s (done P (Read p) (world_of s log db clog frames))
    store_is = ap (λ (x : SeatTold). x.store) (is ∙ seat-is P p s log db clog frames none)

    pub read_out : (buffer bytes : List ℕ) → buffer ≡ cond seat.there frames (sets frames (seat.slot * P) filed) → bytes ≡ part P buffer (seat.slot * P) →
        given bytes (record { number = seat.number; store = seat.store }) log db clog buffer ≡ page_read P p s log db clog frames
    unfolding page_read
    read_out buffer bytes f g =
        let fs : buffer ≡ (done P (Read p) (world_of s log db clog frames)).frames = f ∙ rw (there-is, slot_is) read-frames in
        let bs : bytes ≡ held_page P (done P (Read p) (world_of s log db clog frames)) p = g ∙ rw (fs, slot_is) read-bytes in
        rw (ok, store_is, fs, bs)
        (handed-accepted (held_page P (done P (Read p) (world_of s log db clog frames)) p) (replicate P 0)
        (laid_store s (done P (Read p) (world_of s log db clog frames))) log db clog (done P (Read p) (world_of s log db clog frames)).frames
        (called P (Read p) s log db clog frames) (read-called none))

-- a page is written where it may be read
module _ (P : ℕ) (p : ℕ) (bytes : List ℕ) (s : Store) (log db clog frames : List ℕ) where
  write-hold : hold_no P (write P (file_of db s.lens.db) p bytes (world_of s log db clog frames)) ≡
      hold_no P (seat P (file_of db s.lens.db) p (world_of s log db clog frames))
  unfolding hold_no write
  write-hold = rw length-sets

  pub write-no : refuses P (Write p bytes) (world_of s log db clog frames) ≡ refuses P (Read p) (world_of s log db clog frames)
  unfolding refuses call_no argument_no steps keeps write world_of
  write-no = rw write-hold

  -- both leave the same store
  write_store : laid_store s (done P (Write p bytes) (world_of s log db clog frames)) ≡ laid_store s (done P (Read p) (world_of s log db clog frames))
  unfolding laid_store done apply_all steps keeps write
  write_store = refl

  -- what the frame held before it was written does not matter
  write-frames : length bytes ≡ P → sets frames (slot_of p (resident_of s.frames) * P) bytes ≡ (done P (Write p bytes) (world_of s log db clog frames)).frames
  unfolding done keeps write seat world_of mem_of
  write-frames len =
      rw (with-slot p (resident_of s.frames), part-whole P bytes len) (go (is_in p (resident_of s.frames)) refl)
    where
      go : (b : Bool) → is_in p (resident_of s.frames) ≡ b →
          sets frames (slot_of p (resident_of s.frames) * P) bytes ≡
          sets (cond b frames (sets frames (length (resident_of s.frames) * P) (page_of P (file_of db s.lens.db) p)))
          (slot_of p (resident_of s.frames) * P) bytes
      go true h = refl
      go false h =
          let f = file_of db s.lens.db in
          rw (slot-absent p (resident_of s.frames) h)
          (sym (sets-again (page_of P f p) bytes frames (length (resident_of s.frames) * P) (omega (arith, length-page P f p))))

  write-called : refuses P (Write p bytes) (world_of s log db clog frames) ≡ 0 →
      outcome (record { number = 0; store = laid_store s (done P (Write p bytes) (world_of s log db clog frames)) }) log db clog
      (done P (Write p bytes) (world_of s log db clog frames)).frames ≡ called P (Write p bytes) s log db clog frames
  unfolding done apply_all steps world_of
  write-called e = files-same ∙ sym (accepted P (Write p bytes) s s log db clog frames e)
    where
      files-same : outcome (record { number = 0; store = laid_store s (done P (Write p bytes) (world_of s log db clog frames)) }) log db clog
          (done P (Write p bytes) (world_of s log db clog frames)).frames ≡
          (let v = done P (Write p bytes) (world_of s log db clog frames) in ending 0 (laid_store s v) v)
      files-same = refl

  pub write-refused : (x : Result Store Refusal) (r : Refusal) → IsErr x × IsErrAnd x (λ e. e ≡ r) →
      seat_told s (Err r) ≡ seat_of P p s log db clog frames → outcome (changed s x) log db clog frames ≡ called P (Write p bytes) s log db clog frames
  write-refused x r h e =
      refused-on P (Write p bytes) s log db clog frames s x r h (write-no ∙ seat-number P p s log db clog frames _ e)

  module _ (seat : SeatTold) (is : seat ≡ seat_of P p s log db clog frames) where
    pub write-out : seat.number ≡ 0 → length bytes ≡ P → (buffer : List ℕ) → buffer ≡ sets frames (seat.slot * P) bytes →
        outcome (record { number = seat.number; store = seat.store }) log db clog buffer ≡ called P (Write p bytes) s log db clog frames
    write-out ok len buffer f =
        let no = write-no ∙ none P p s log db clog frames seat is ok in
        let fs : buffer ≡ (done P (Write p bytes) (world_of s log db clog frames)).frames =
        f ∙ rw (slot_is P p s log db clog frames seat is ok) (write-frames len) in
        rw (ok, store_is P p s log db clog frames seat is ok, ← write_store, fs) (write-called no)
