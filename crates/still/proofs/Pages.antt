-- Laws of reading and writing a page of a lent store: each way out of its seat, and what the two leave, by the laws of the calls on a store by value. Assumes nothing.
use Prim.Native.Nat.{ℕ, ◌+◌, ◌*◌, ◌≤◌, ◌<◌, max}
use native.Mathlib.Omega.{arith}
use mathlib.Core.Path.{◌≡◌, refl, sym, ap, ◌∙◌}
use mathlib.Core.List.{List, [], ◌∷◌, ◌++◌}
use mathlib.Core.Bool.{Bool, true, false, cond}
use lib.ListN.{length, take, replicate}
use lib.Seq.{sets}
use Rattle.std.specs.Prelude.{Option, Result, Err}
use Rattle.std.specs.Option.{is_some, unwrap_or}
use Rattle.std.specs.Result.{IsErr, IsErrAnd}
use Rattle.fields.specs.declared.refusal.Refusal.{Refusal}
use Rattle.fields.specs.declared.refusal.Refusal.TheVariants.{BadPage, FramesFull}
use Rattle.fields.specs.Refusals.{number_of}
use Rattle.fields.proofs.AnswerLaws.{handed-on, number-positive}
use Rattle.fields.specs.Bytes.{part}
use Rattle.fields.specs.Files.{file_of}
use Rattle.fields.proofs.Tests.{Order, less, most, order}
use Rattle.sorted.specs.Sorted.{laid_on}
use Rattle.sorted.proofs.Laws.{laid-own, laid-back}
use Rattle.frames.specs.declared.Frames.{Frames}
use Rattle.frames.specs.Pages.{is_in, resident_of, frame_count, place_told, found_in, Seated, seated_as, seated}
use Rattle.frames.specs.Copies.{page_of}
use Rattle.frames.proofs.Values.{seat-old, seat-full, seat-new, seat-refused}
use Rattle.seats.specs.Seats.{frames_in, seated_in, Kept}
use Rattle.world.specs.Calls.{Call, Read, Write, held_page}
use Rattle.world.specs.World.{files_of}
use Rattle.world.specs.Refusals.{front_no, bad_buffers, refuses}
use Rattle.world.specs.Run.{done, decided}
use Rattle.form.specs.declared.Store.{Store}
use Rattle.form.specs.Store.{world_of, outcome, called, Given, given}
use Rattle.quiet.specs.Inside.{SeatTold, seat_of}
use Rattle.quiet.specs.Handed as handed
use Rattle.quiet.proofs.Refused.{decided-refused, by-front, refused-with}
use Rattle.quiet.proofs.Pages as by_value
use Rattle.lent.specs.declared.Head.{Head}
use Rattle.lent.specs.Lent.{Lent, lent, replied, store_of, odd, odd_no, laid_lent, leaving, left_of, called_lent}
use Rattle.lent.proofs.Laws.{Fit, sized, odd-left, by-outcome, head-back, rows_same, few-entries, few-resident, touched-same}
use Rattle.still.specs.declared.Seat.{Seat}
use Rattle.still.specs.Still.{beside, page_read}
use Rattle.still.specs.Entries.{first_no}
use Rattle.still.specs.Inside.{Placed, placed, seat_in, laid_seat, seat_lent}
use Rattle.still.proofs.Refused.{refusal-number}
use Rattle.still.proofs.Handed.{handed-none, handed-some}

-- ---- the array of an accepted seat is its list, laid over the array before

seated-laid : (N P : ℕ) (f : Frames) (size p : ℕ) → f.count ≤ length f.pages → (seated N P f size p).number ≡ 0 →
    laid_on f.pages (resident_of (seated N P f size p).frames) ≡ (seated N P f size p).frames.pages
seated-laid N P f size p few ok = go (is_in p (resident_of f)) refl (order (length (resident_of f)) (frame_count N P size))
  where
    go : (b : Bool) → is_in p (resident_of f) ≡ b → Order (length (resident_of f)) (frame_count N P size) →
        laid_on f.pages (resident_of (seated N P f size p).frames) ≡ (seated N P f size p).frames.pages
    go true h o = rw (seat-old N P f size p h) (laid-own f.pages f.count few)
    go false h (less k) = rw (seat-new N P f size p h k) (ap (laid_on f.pages) (laid-back f.pages (resident_of f ++ (p ∷ []))))
    go false h (most k) =
        let z : ◌≡◌ {A = ℕ} 8 0 = sym (ap (λ (r : Seated). r.number) (seat-full N P f size p h k)) ∙ ok in
        absurd (omega arith)

-- ---- the ways out of the seat

module _ (P p : ℕ) (s : Lent) (log db clog frames : List ℕ) where
  abbrev found : SeatTold
  found = seat_of P p (store_of s) log db clog frames

  seat-fine : odd s ≡ false → seat_lent P p s log db clog frames ≡ laid_seat s found
  unfolding seat_lent
  seat-fine e = rw e

  seat-odd : odd s ≡ true → seat_lent P p s log db clog frames ≡ placed (odd_no P s log db clog frames) true 0 s
  unfolding seat_lent
  seat-odd e = rw e

  refused-laid : odd s ≡ false → (r : Refusal) → refuses P (Read p) (world_of (store_of s) log db clog frames) ≡ number_of r →
      placed (number_of r) true 0 s ≡ seat_lent P p s log db clog frames
  refused-laid e r q =
      ap (placed (number_of r) true 0) (sym (decided-refused (laid_lent s (store_of s)) s r))
      ∙ ap (laid_seat s) (by_value.seat-with P p (store_of s) log db clog frames r q)
      ∙ sym (seat-fine e)

  refused-first : (r : Refusal) → number_of r ≡ first_no P s log db clog frames → placed (number_of r) true 0 s ≡ seat_lent P p s log db clog frames
  refused-first r e = go (odd s) refl
    where
      go : (b : Bool) → odd s ≡ b → placed (number_of r) true 0 s ≡ seat_lent P p s log db clog frames
      go true f = let g : number_of r ≡ odd_no P s log db clog frames = rw f at e in ap (λ (k : ℕ). placed k true 0 s) g ∙ sym (seat-odd f)
      go false f =
          let g : number_of r ≡ front_no P (world_of (store_of s) log db clog frames) = rw f at e in
          refused-laid f r (by-front P (Read p) (store_of s) log db clog frames r g)

  -- what `?` hands on
  pub seat-first : (x : Result Seat Refusal) (r : Refusal) → IsErr x × IsErrAnd x (λ q. q ≡ r) → number_of r ≡ first_no P s log db clog frames →
      seat_in s.head x s.rows s.resident s.touched ≡ seat_lent P p s log db clog frames
  seat-first x r h e = ap (λ y. seat_in s.head y s.rows s.resident s.touched) (handed-on x r h) ∙ refused-first r e

  module _ (z : Fit s) (fine : odd s ≡ false) (e0 : front_no P (world_of (store_of s) log db clog frames) ≡ 0) where
    pub seat-bad : 4294967295 ≤ p → placed 10 true 0 s ≡ seat_lent P p s log db clog frames
    seat-bad h = refused-laid fine BadPage (by_value.seat-10 P p (store_of s) log db clog frames (sym e0) h)

    module _ (good : p < 4294967295) (kept : Kept) (res : List ℕ)
        (is : seated_in kept.number res kept.count ≡ seated 64 P (frames_in s.resident s.head.resident) (length frames) p) where
      is_store : seated_in kept.number res kept.count ≡ seated 64 P (store_of s).frames (length frames) p
      unfolding store_of
      is_store = is

      number_is : kept.number ≡ (seated 64 P (frames_in s.resident s.head.resident) (length frames) p).number
      number_is = ap (λ (x : Seated). x.number) is

      full-store : seated 64 P (frames_in s.resident s.head.resident) (length frames) p ≡ seated_as 8 (frames_in s.resident s.head.resident) →
          seated_as 8 (store_of s).frames ≡ seated 64 P (store_of s).frames (length frames) p
      unfolding store_of
      full-store e = sym e

      -- no frame is left, and the array is as it was
      pub seat-none : (r : Refusal) → kept.number ≡ number_of r → placed (number_of r) true 0 (lent s.head s.rows res s.touched) ≡ seat_lent P p s log db clog frames
      seat-none r h =
          let none : (seated 64 P (frames_in s.resident s.head.resident) (length frames) p).number ≡ 0 → ⊥ = λ e. omega (arith, number-positive r, sym h ∙ number_is ∙ e) in
          let full = seat-refused 64 P (frames_in s.resident s.head.resident) (length frames) p none in
          let same : res ≡ s.resident = ap (λ (x : Seated). x.frames.pages) (is ∙ full) in
          let eight : number_of r ≡ 8 = sym h ∙ number_is ∙ ap (λ (x : Seated). x.number) full in
          ap (λ (k : ℕ). placed k true 0 (lent s.head s.rows res s.touched)) eight
          ∙ ap (λ (l : List ℕ). placed 8 true 0 (lent s.head s.rows l s.touched)) same
          ∙ refused-laid fine FramesFull (by_value.seat-8 P p (store_of s) log db clog frames (sym e0) good (sized s z) FramesFull (full-store full))

      module _ (ok : kept.number ≡ 0) (k : ℕ) (up : k ≡ max s.head.pages (p + 1)) where
        up-store : k ≡ max (store_of s).pages (p + 1)
        unfolding store_of
        up-store = up

        -- the head after it
        abbrev raised_head : Head
        raised_head =
            record {
              lens = s.head.lens;
              pages = k;
              next = s.head.next;
              time = s.head.time;
              mark = s.head.mark;
              held = s.head.held;
              id = s.head.id;
              entries = s.head.entries;
              resident = kept.count;
              touched = s.head.touched;
            }

        -- the store by value after it
        abbrev raised_store : Store
        raised_store =
            record {
              lens = (store_of s).lens;
              pages = k;
              next = (store_of s).next;
              time = (store_of s).time;
              mark = (store_of s).mark;
              table = (store_of s).table;
              frames = frames_in res kept.count;
              held = (store_of s).held;
            }

        res-is : laid_on s.resident (take kept.count res) ≡ res
        res-is =
            let few = few-resident s fine z P log db clog frames e0 in
            ap (λ (x : Seated). laid_on s.resident (resident_of x.frames)) is
            ∙ seated-laid 64 P (frames_in s.resident s.head.resident) (length frames) p (omega (arith, few, z.resident)) (sym number_is ∙ ok)
            ∙ sym (ap (λ (x : Seated). x.frames.pages) is)

        laid-is : lent raised_head s.rows res s.touched ≡ laid_lent s raised_store
        unfolding laid_lent store_of
        laid-is =
            let b = head-back s fine in
            let held-is = ap (λ (h : Head). h.held) b in
            let id-is = ap (λ (h : Head). h.id) b in
            let few = few-entries s fine z P log db clog frames e0 in
            rw (
              rows_same s fine (omega (arith, few, z.rows)),
              touched-same s fine z P log db clog frames e0,
              res-is,
              held-is,
              id-is,
            )

        pub seat-done : (place : Option ℕ) → place_told place ≡ found_in p (take s.head.resident s.resident) →
            (b : Bool) (slot : ℕ) → b ≡ is_some place → slot ≡ unwrap_or place s.head.resident →
            placed 0 b slot (lent raised_head s.rows res s.touched) ≡ seat_lent P p s log db clog frames
        unfolding store_of
        seat-done place f b slot eb es =
            let seat = ap (λ (n : ℕ). seated_in n res kept.count) (sym ok) ∙ is_store in
            ap (placed 0 b slot) laid-is
            ∙ ap (laid_seat s) (by_value.seat-out P p (store_of s) log db clog frames (sym e0) good (sized s z) (frames_in res kept.count) seat k up-store place f b slot eb es)
            ∙ sym (seat-fine fine)

-- ---- reading and writing

module _ (P p : ℕ) (s : Lent) (log db clog frames : List ℕ) (n : ℕ) (there : Bool) (slot : ℕ) (head : Head) (res : List ℕ)
    (is : placed n there slot (lent head s.rows res s.touched) ≡ seat_lent P p s log db clog frames) where
  abbrev after : Lent
  after = lent head s.rows res s.touched

  -- what is left, by the outcome of the call on the store by value
  left-fine : (c : Call) → odd s ≡ false → (buffer : List ℕ) →
      outcome (record { number = (found P p s log db clog frames).number; store = (found P p s log db clog frames).store }) log db clog buffer ≡ called P c (store_of s) log db clog frames →
      leaving n after log db clog buffer ≡ called_lent P c s log db clog frames
  unfolding left_of
  left-fine c fine buffer e =
      ap (λ (q : Placed). leaving q.number q.store log db clog buffer) (is ∙ seat-fine P p s log db clog frames fine)
      ∙ by-outcome P c s log db clog frames fine _ e

  left-odd : (c : Call) → odd s ≡ true → leaving n after log db clog frames ≡ called_lent P c s log db clog frames
  left-odd c e =
      ap (λ (q : Placed). leaving q.number q.store log db clog frames) (is ∙ seat-odd P p s log db clog frames e)
      ∙ odd-left P c s log db clog frames e

  number-fine : odd s ≡ false → n ≡ (found P p s log db clog frames).number
  number-fine e = ap (λ (q : Placed). q.number) (is ∙ seat-fine P p s log db clog frames e)

  -- an accepted seat is no odd store's
  not-odd : n ≡ 0 → odd s ≡ false
  unfolding odd_no
  not-odd ok = go (odd s) refl
    where
      some : (b : Bool) → ◌≡◌ {A = ℕ} (cond b 1 14) 0 → ⊥
      some true e = omega arith
      some false e = omega arith

      go : (b : Bool) → odd s ≡ b → b ≡ false
      go true f =
          absurd (some (bad_buffers P (files_of s.head.lens log db clog) frames) (sym (ap (λ (q : Placed). q.number) (is ∙ seat-odd P p s log db clog frames f)) ∙ ok))
      go false f = refl

  -- where it is refused
  module _ (r : Refusal) (k : n ≡ number_of r) where
    number-is : odd s ≡ false → refuses P (Read p) (world_of (store_of s) log db clog frames) ≡ number_of r
    number-is f = by_value.seat-number P p (store_of s) log db clog frames (found P p s log db clog frames) refl ∙ sym (number-fine f) ∙ k

    left-none : (c : Call) → (odd s ≡ false → refuses P c (world_of (store_of s) log db clog frames) ≡ number_of r) →
        leaving n after log db clog frames ≡ called_lent P c s log db clog frames
    left-none c e = go (odd s) refl
      where
        go : (b : Bool) → odd s ≡ b → leaving n after log db clog frames ≡ called_lent P c s log db clog frames
        go true f = left-odd c f
        go false f =
            left-fine c f frames
            (ap (λ (q : SeatTold). outcome (record { number = q.number; store = q.store }) log db clog frames)
            (sym (by_value.seat-with P p (store_of s) log db clog frames r (number-is f)))
            ∙ refused-with P c (store_of s) log db clog frames (store_of s) r (e f))

    pub read_none : (bytes : List ℕ) → beside bytes (leaving n after log db clog frames) ≡ page_read P p bytes s log db clog frames
    unfolding page_read
    read_none bytes = handed-none _ bytes _ _ (left-none (Read p) number-is) (λ e. refusal-number r (sym k ∙ e))

    pub write-none : (bytes : List ℕ) → leaving n after log db clog frames ≡ called_lent P (Write p bytes) s log db clog frames
    write-none bytes =
        left-none (Write p bytes) (λ f. by_value.write-no P p bytes (store_of s) log db clog frames ∙ number-is f)

  module _ (ok : n ≡ 0) where
    ok-found : (found P p s log db clog frames).number ≡ 0
    ok-found = sym (number-fine (not-odd ok)) ∙ ok

    there-is : there ≡ (found P p s log db clog frames).there
    there-is = ap (λ (q : Placed). q.there) (is ∙ seat-fine P p s log db clog frames (not-odd ok))

    slot_is : slot ≡ (found P p s log db clog frames).slot
    slot_is = ap (λ (q : Placed). q.slot) (is ∙ seat-fine P p s log db clog frames (not-odd ok))

    file-is : page_of P (file_of db s.head.lens.db) p ≡ page_of P (file_of db (store_of s).lens.db) p
    unfolding store_of
    file-is = refl

    module _ (buffer bytes : List ℕ) (f : buffer ≡ cond there frames (sets frames (slot * P) (page_of P (file_of db s.head.lens.db) p)))
        (g : bytes ≡ part P buffer (slot * P)) where
      by_read : given bytes (record { number = (found P p s log db clog frames).number; store = (found P p s log db clog frames).store }) log db clog buffer ≡
          handed.page_read P p (store_of s) log db clog frames
      by_read =
          by_value.read_out P p (store_of s) log db clog frames (found P p s log db clog frames) refl ok-found buffer bytes (rw (← there-is, ← slot_is, ← file-is) f)
          (rw (← slot_is) g)

      value-is : bytes ≡ held_page P (done P (Read p) (world_of (store_of s) log db clog frames)) p
      unfolding handed.page_read
      value-is =
          ap (λ (q : Given (List ℕ)). q.value) by_read
          ∙ go (called P (Read p) (store_of s) log db clog frames).number (sym (ap (λ (q : Given (List ℕ)). q.outcome.number) by_read) ∙ ok-found)
        where
          go : (m : ℕ) → m ≡ 0 →
              decided m (held_page P (done P (Read p) (world_of (store_of s) log db clog frames)) p) (replicate P 0) ≡
              held_page P (done P (Read p) (world_of (store_of s) log db clog frames)) p
          go m e = rw e

      outcome-is : outcome (record { number = (found P p s log db clog frames).number; store = (found P p s log db clog frames).store }) log db clog buffer ≡
          called P (Read p) (store_of s) log db clog frames
      unfolding handed.page_read
      outcome-is = ap (λ (q : Given (List ℕ)). q.outcome) by_read

      pub read_done : (old : List ℕ) → beside bytes (leaving n after log db clog buffer) ≡ page_read P p old s log db clog frames
      unfolding page_read
      read_done old = handed-some _ old _ _ (left-fine (Read p) (not-odd ok) buffer outcome-is) bytes value-is ok

    pub write_done : (bytes buffer : List ℕ) → length bytes ≡ P → buffer ≡ sets frames (slot * P) bytes →
        leaving n after log db clog buffer ≡ called_lent P (Write p bytes) s log db clog frames
    write_done bytes buffer len f =
        left-fine (Write p bytes) (not-odd ok) buffer
        (by_value.write-out P p bytes (store_of s) log db clog frames (found P p s log db clog frames) refl ok-found len buffer (rw (← slot_is) f))

-- what `?` hands on
module _ (P p : ℕ) (s : Lent) (log db clog frames : List ℕ) (r : Refusal) (res : List ℕ) (is : seat_in s.head (Err r) s.rows res s.touched ≡ seat_lent P p s log db clog frames)
    (x : Result Head Refusal) (h : IsErr x × IsErrAnd x (λ q. q ≡ r)) (bytes : List ℕ) where
  pub read-on : beside bytes (leaving (replied s.head x).number (lent (replied s.head x).head s.rows res s.touched) log db clog frames) ≡ page_read P p bytes s log db clog frames
  read-on = rw (handed-on x r h) (read_none P p s log db clog frames (number_of r) true 0 s.head res is r refl bytes)

  pub write-on : leaving (replied s.head x).number (lent (replied s.head x).head s.rows res s.touched) log db clog frames ≡ called_lent P (Write p bytes) s log db clog frames
  write-on = rw (handed-on x r h) (write-none P p s log db clog frames (number_of r) true 0 s.head res is r refl bytes)
