-- The calls begin, flush, commit, rollback and advance, over the page size P: their stores, what each leaves in memory and frames, its number as a chain of
-- tests, and the files that its stores leave. Tests that a store in form cannot fail are left out of the chains. Assumes nothing.
use mathlib.Core.Path.{◌≡◌, refl, sym, ap, ◌∙◌}
use mathlib.Core.List.{List, [], ◌∷◌, ◌++◌}
use mathlib.Core.Bool.{Bool, true, false, cond}
use Prim.Native.Nat.{ℕ, zero, suc, ◌+◌, ◌*◌, ◌/◌, ◌≤◌, ◌<◌, max}
use native.Mathlib.Numerals.{add-one}
use native.Mathlib.Omega.{arith}
use borrow.Author.Tests.{ltb-false, lt-ltb, le-ltb}
use lib.Dec.{ltb, lit<}
use lib.ListN.{length, drop, get_or, length-append, drop_of_length-le}
use lib.Seq.{drop-cons}
use Rattle.fields.specs.declared.TransactionId.{TransactionId}
use Rattle.fields.specs.Files.{room}
use Rattle.fields.proofs.Tests.{Order, less, most, order, passed}
use Rattle.wal.specs.Records.{image, begin, commit, abort, checkpoint}
use Rattle.table.specs.declared.Status.TheVariants.{Active, Committed, Aborted}
use Rattle.table.specs.declared.Entry.{Entry}
use Rattle.table.specs.declared.Table.{Table}
use Rattle.table.specs.Entries.{list_of, insert_entry, bounded, inserted}
use Rattle.table.proofs.Facts.{bounded-yes, bounded-no}
use Rattle.meta.specs.Page.{meta_page}
use Rattle.frames.specs.declared.Frames.{Frames}
use Rattle.frames.specs.declared.Touched.{Touched}
use Rattle.frames.specs.Pages.{is_in, slot_of, with_page, touch, bad_page, any_bad, resident_of, frame_count, seated, touched_of, marked}
use Rattle.frames.proofs.Lists.{with-old, with-new}
use Rattle.frames.proofs.Values.{seat-old, seat-full, seat-new, mark-yes, mark-no}
use Rattle.frames.specs.Copies.{with_frame}
use Rattle.world.specs.declared.Slot.TheVariants.{Installed, Empty}
use Rattle.world.specs.World.{Files, Mem, World, with_counts}
use Rattle.world.specs.Steps.{Step, Log, Page, SetSlot, Compact, Truncate, apply, apply_all, log_bytes, db_end, clog_end, sum_of, most_of}
use Rattle.world.specs.Calls.{Call, Begin, Flush, Commit, Rollback, Advance, held_page, revert, held, catalog_pages, data_pages, next_time, committed, rolled_back, advanced, meta_step, images, writes, flush_steps, commit_steps, data_steps, back_steps, rollback_steps, advance_steps, steps, meta_written, flush_keeps, commit_keeps, rollback_keeps, advance_keeps, keeps}
use Rattle.world.specs.Refusals.{or_else, argument_no, room_no, hold_no, call_no}
use Rattle.world.specs.Run.{done}
use Rattle.world.proofs.Laws.{apply-append}
use Rattle.world.proofs.RoomLaws.{begin-log, begin-db, begin-clog, flush-log, flush-db, flush-clog, commit-log, commit-db, commit-clog, rollback-db, rollback-clog, advance-log, advance-db, advance-clog}
use Rattle.world.proofs.FrameLaws.{catalog-resident, raised, refilled, revert-frames-size, revert-mem, revert-frames, meta-mem, meta-frames, meta-frames-size}

-- ---- a call's number as one chain

-- touched pages, log bytes, ends in database and clog, entries, resident pages
abbrev pub chain_of : ℕ → World → ℕ → ℕ → ℕ → ℕ → ℕ → ℕ → ℕ
chain_of P w touched log db clog entries resident =
    cond (ltb 64 touched) 11
    (cond (ltb (room w.files.log) (w.files.log.len + log)) 4
    (cond (ltb (room w.files.db) db) 5
    (cond (ltb (room w.files.clog) clog) 6
    (cond (ltb 256 entries) 7
    (cond (ltb (frame_count 64 P (length w.frames)) resident) 8 0)))))

room-first : (a b c : Bool) (r : ℕ) → or_else (cond a 4 (cond b 5 (cond c 6 0))) r ≡ cond a 4 (cond b 5 (cond c 6 r))
room-first true b c r = refl
room-first false true c r = refl
room-first false false true r = refl
room-first false false false r = refl

ten-first : (b : Bool) (r : ℕ) → or_else (cond b 10 0) r ≡ cond b 10 r
ten-first true r = refl
ten-first false r = refl

module _ (P : ℕ) (c : Call) (w : World) where
  pub call-no : length (keeps P c w).frames ≡ length w.frames → call_no P c w ≡ or_else (argument_no c w)
      (chain_of P w (length (keeps P c w).mem.touched) (sum_of log_bytes (steps P c w)) (most_of (db_end P) (steps P c w)) (most_of clog_end (steps P c w)) (length (keeps P c w).mem.table) (length (keeps P c w).mem.resident))
  unfolding call_no room_no hold_no
  call-no e = rw (room-first, e)

  -- with the numbers given
  module _ (same : length (keeps P c w).frames ≡ length w.frames) where
    pub call-chain : (t l d g e r : ℕ) → length (keeps P c w).mem.touched ≡ t → sum_of log_bytes (steps P c w) ≡ l → most_of (db_end P) (steps P c w) ≡ d →
        most_of clog_end (steps P c w) ≡ g → length (keeps P c w).mem.table ≡ e → length (keeps P c w).mem.resident ≡ r →
        call_no P c w ≡ or_else (argument_no c w) (chain_of P w t l d g e r)
    call-chain t l d g e r et el ed eg ee er = call-no same ∙ rw (et, el, ed, eg, ee, er)

    -- one with no store, that leaves table and resident pages
    pub call-quiet : steps P c w ≡ [] → (keeps P c w).mem.table ≡ w.mem.table → (keeps P c w).mem.resident ≡ w.mem.resident →
        w.files.log.len ≤ room w.files.log → length w.mem.table ≤ 256 → length w.mem.resident ≤ frame_count 64 P (length w.frames) →
        call_no P c w ≡ or_else (argument_no c w) (cond (ltb 64 (length (keeps P c w).mem.touched)) 11 0)
    unfolding sum_of most_of
    call-quiet es et er hl he hr =
        call-chain (length (keeps P c w).mem.touched) 0 0 0 (length w.mem.table) (length w.mem.resident) refl (rw es) (rw es) (rw es) (ap length et) (ap length er)
        ∙ rw (
          le-ltb (room w.files.log) (w.files.log.len + 0) (omega arith),
          le-ltb (room w.files.db) 0 (omega arith),
          le-ltb (room w.files.clog) 0 (omega arith),
          le-ltb 256 (length w.mem.table) he,
          le-ltb (frame_count 64 P (length w.frames)) (length w.mem.resident) hr,
        )

-- ---- a number that is 0

-- what the tests of a chain ask for
pub record Fits (P : ℕ) (w : World) (touched log db clog entries resident : ℕ) : Type 0 where
  pub touched-fit : touched ≤ 64
  pub log-fits : w.files.log.len + log ≤ room w.files.log
  pub db-fits : db ≤ room w.files.db
  pub clog-fits : clog ≤ room w.files.clog
  pub entries_fit : entries ≤ 256
  pub resident-fit : resident ≤ frame_count 64 P (length w.frames)

module _ (P : ℕ) (w : World) (t l d g e r : ℕ) where
  pub chain_fits : chain_of P w t l d g e r ≡ 0 → Fits P w t l d g e r
  chain_fits h =
      let a = passed (ltb 64 t) 11 _ (lit< tt) h in
      let b = passed (ltb (room w.files.log) (w.files.log.len + l)) 4 _ (lit< tt) a.1 in
      let c = passed (ltb (room w.files.db) d) 5 _ (lit< tt) b.1 in
      let f = passed (ltb (room w.files.clog) g) 6 _ (lit< tt) c.1 in
      let i = passed (ltb 256 e) 7 _ (lit< tt) f.1 in
      let j = passed (ltb (frame_count 64 P (length w.frames)) r) 8 0 (lit< tt) i.1 in
      record {
        touched-fit = ltb-false 64 t a.0;
        log-fits = ltb-false (room w.files.log) (w.files.log.len + l) b.0;
        db-fits = ltb-false (room w.files.db) d c.0;
        clog-fits = ltb-false (room w.files.clog) g f.0;
        entries_fit = ltb-false 256 e i.0;
        resident-fit = ltb-false (frame_count 64 P (length w.frames)) r j.0;
      }

  pub fits-chain : Fits P w t l d g e r → chain_of P w t l d g e r ≡ 0
  fits-chain f =
      rw (
        le-ltb 64 t f.touched-fit,
        le-ltb (room w.files.log) (w.files.log.len + l) f.log-fits,
        le-ltb (room w.files.db) d f.db-fits,
        le-ltb (room w.files.clog) g f.clog-fits,
        le-ltb 256 e f.entries_fit,
        le-ltb (frame_count 64 P (length w.frames)) r f.resident-fit,
      )

pub both_zero : (a b : ℕ) → or_else a b ≡ 0 → (a ≡ 0) × (b ≡ 0)
both_zero zero b h = (refl, h)
both_zero (suc a) b h = absurd (omega arith)

-- an accepted call: its arguments are good, and all that it needs fits
pub call-good : (P : ℕ) (c : Call) (w : World) → call_no P c w ≡ 0 → argument_no c w ≡ 0
unfolding call_no
call-good P c w h = (both_zero (argument_no c w) _ h).0

pub call_fits : (P : ℕ) (c : Call) (w : World) → length (keeps P c w).frames ≡ length w.frames → call_no P c w ≡ 0 →
    Fits P w (length (keeps P c w).mem.touched) (sum_of log_bytes (steps P c w)) (most_of (db_end P) (steps P c w)) (most_of clog_end (steps P c w)) (length (keeps P c w).mem.table) (length (keeps P c w).mem.resident)
call_fits P c w same h = chain_fits P w _ _ _ _ _ _ (both_zero (argument_no c w) _ (sym (call-no P c w same) ∙ h)).1

-- ---- the numbers of the parts of a store: 7, 8 and 11, as the chains have them

pub inserted-number : (N : ℕ) (t : Table) (e : Entry) → (inserted N t e).number ≡ cond (ltb N (length (insert_entry e (list_of t)))) 7 0
unfolding inserted bounded
inserted-number N t e = go (order N (length (insert_entry e (list_of t))))
  where
    go : Order N (length (insert_entry e (list_of t))) → (bounded N t (insert_entry e (list_of t))).number ≡ cond (ltb N (length (insert_entry e (list_of t)))) 7 0
    go (less h) = rw (bounded-no N t (insert_entry e (list_of t)) h, lt-ltb N (length (insert_entry e (list_of t))) h)
    go (most h) = rw (bounded-yes N t (insert_entry e (list_of t)) h, le-ltb N (length (insert_entry e (list_of t))) h)

pub marked-number : (N : ℕ) (t : Touched) (p : ℕ) → (marked N t p).number ≡ cond (ltb N (length (touch p (touched_of t)))) 11 0
marked-number N t p = go (order N (length (touch p (touched_of t))))
  where
    go : Order N (length (touch p (touched_of t))) → (marked N t p).number ≡ cond (ltb N (length (touch p (touched_of t)))) 11 0
    go (less h) = rw (mark-no N t p h, lt-ltb N (length (touch p (touched_of t))) h)
    go (most h) = rw (mark-yes N t p h, le-ltb N (length (touch p (touched_of t))) h)

pub seated-number : (N P : ℕ) (f : Frames) (size p : ℕ) → length (resident_of f) ≤ frame_count N P size →
    (seated N P f size p).number ≡ cond (ltb (frame_count N P size) (length (with_page p (resident_of f)))) 8 0
seated-number N P f size p few = go (is_in p (resident_of f)) refl (order (length (resident_of f)) (frame_count N P size))
  where
    go : (b : Bool) → is_in p (resident_of f) ≡ b → Order (length (resident_of f)) (frame_count N P size) →
        (seated N P f size p).number ≡ cond (ltb (frame_count N P size) (length (with_page p (resident_of f)))) 8 0
    go true e o = rw (seat-old N P f size p e, with-old p (resident_of f) e, le-ltb (frame_count N P size) (length (resident_of f)) few)
    go false e (less h) =
        let k : length (resident_of f ++ (p ∷ [])) ≤ frame_count N P size = rw length-append (omega arith) in
        rw (seat-new N P f size p e h, with-new p (resident_of f) e, le-ltb (frame_count N P size) (length (resident_of f ++ (p ∷ []))) k)
    go false e (most h) =
        let k : frame_count N P size < length (resident_of f ++ (p ∷ [])) = rw length-append (omega arith) in
        rw (seat-full N P f size p e h, with-new p (resident_of f) e, lt-ltb (frame_count N P size) (length (resident_of f ++ (p ∷ []))) k)

-- ---- pages logged and pages written, turn by turn: page i, and those after it

module _ (P : ℕ) (w : World) (ps : List ℕ) (i : ℕ) (f : Files) where
  pub images-turn : i < length ps → apply_all P (images P w (drop i ps)) f ≡ apply_all P (images P w (drop (i + 1) ps)) (apply P (Log (image (get_or ps i 0) (held_page P w (get_or ps i 0)))) f)
  unfolding apply_all images
  images-turn h = rw (add-one, drop-cons ps i 0 h)

  pub images-end : length ps ≤ i → apply_all P (images P w (drop i ps)) f ≡ f
  unfolding apply_all images
  images-end h = rw (drop_of_length-le ps h)

  pub writes-turn : i < length ps → apply_all P (writes P w (drop i ps)) f ≡ apply_all P (writes P w (drop (i + 1) ps)) (apply P (Page (get_or ps i 0) (held_page P w (get_or ps i 0))) f)
  unfolding apply_all writes
  writes-turn h = rw (add-one, drop-cons ps i 0 h)

  pub writes_end : length ps ≤ i → apply_all P (writes P w (drop i ps)) f ≡ f
  unfolding apply_all writes
  writes_end h = rw (drop_of_length-le ps h)

-- ---- begin

module _ (P : ℕ) (id : TransactionId) (w : World) where
  pub begin-mem : (keeps P (Begin id) w).mem ≡ record {
    pages = w.mem.pages;
    next = w.mem.next;
    time = w.mem.time;
    mark = w.mem.mark;
    table = insert_entry (record { id = id; status = Active }) w.mem.table;
    resident = w.mem.resident;
    slot = Installed id;
    touched = [];
  }
  unfolding keeps
  begin-mem = refl

  pub begin-frames : (keeps P (Begin id) w).frames ≡ w.frames
  unfolding keeps
  begin-frames = refl

  begin-chain : call_no P (Begin id) w ≡ chain_of P w 0 9 0 (8 + id.0 / 4 + 1) (length (insert_entry (record { id = id; status = Active }) w.mem.table)) (length w.mem.resident)
  unfolding keeps argument_no
  begin-chain =
      call-chain P (Begin id) w refl 0 9 0 (8 + id.0 / 4 + 1) (length (insert_entry (record { id = id; status = Active }) w.mem.table)) (length w.mem.resident)
      refl (begin-log P id w) (begin-db P id w) (begin-clog P id w) refl refl

  -- 4, 6, 7
  pub begin-no : length w.mem.resident ≤ frame_count 64 P (length w.frames) → call_no P (Begin id) w ≡
      cond (ltb (room w.files.log) (w.files.log.len + 9)) 4
      (cond (ltb (room w.files.clog) (8 + id.0 / 4 + 1)) 6
      (cond (ltb 256 (length (insert_entry (record { id = id; status = Active }) w.mem.table))) 7 0))
  begin-no few = begin-chain ∙ rw (le-ltb (room w.files.db) 0 (omega arith), le-ltb (frame_count 64 P (length w.frames)) (length w.mem.resident) few)

  pub begin-fits : call_no P (Begin id) w ≡ 0 → Fits P w 0 9 0 (8 + id.0 / 4 + 1) (length (insert_entry (record { id = id; status = Active }) w.mem.table)) (length w.mem.resident)
  begin-fits h = chain_fits P w _ _ _ _ _ _ (sym begin-chain ∙ h)

  pub begin-files : (done P (Begin id) w).files ≡ apply P (SetSlot id.0 Active) (apply P (Log (begin id.0)) w.files)
  unfolding done steps apply_all
  begin-files = refl

-- ---- flush

module _ (P p : ℕ) (w : World) where
  -- inside a transaction
  module _ (id : TransactionId) (inside : w.mem.slot ≡ Installed id) where
    pub flush-steps-in : steps P (Flush p) w ≡ []
    unfolding steps flush_steps
    flush-steps-in = rw inside

    pub flush-mem-in : (keeps P (Flush p) w).mem ≡ record {
      pages = w.mem.pages;
      next = w.mem.next;
      time = w.mem.time;
      mark = w.mem.mark;
      table = w.mem.table;
      resident = w.mem.resident;
      slot = Installed id;
      touched = touch p w.mem.touched;
    }
    unfolding keeps flush_keeps
    flush-mem-in = rw inside

    pub flush-frames-in : (keeps P (Flush p) w).frames ≡ w.frames
    unfolding keeps flush_keeps
    flush-frames-in = rw inside

    -- 10, 11
    pub flush-no-in : w.files.log.len ≤ room w.files.log → length w.mem.table ≤ 256 → length w.mem.resident ≤ frame_count 64 P (length w.frames) →
        call_no P (Flush p) w ≡ cond (bad_page p) 10 (cond (ltb 64 (length (touch p w.mem.touched))) 11 0)
    unfolding argument_no
    flush-no-in hl he hr =
        call-quiet P (Flush p) w (ap length flush-frames-in) flush-steps-in (ap (λ (m : Mem). m.table) flush-mem-in) (ap (λ (m : Mem). m.resident) flush-mem-in) hl he hr
        ∙ ap (λ (m : Mem). or_else (cond (bad_page p) 10 0) (cond (ltb 64 (length m.touched)) 11 0)) flush-mem-in
        ∙ ten-first (bad_page p) (cond (ltb 64 (length (touch p w.mem.touched))) 11 0)

  -- outside
  module _ (outside : w.mem.slot ≡ Empty) where
    pub flush-keeps-out : keeps P (Flush p) w ≡ w
    unfolding keeps flush_keeps
    flush-keeps-out = rw outside

    -- a page that is not resident: 10
    module _ (absent : is_in p w.mem.resident ≡ false) where
      pub flush-steps-absent : steps P (Flush p) w ≡ []
      unfolding steps flush_steps
      flush-steps-absent = rw (outside, absent)

      pub flush-no-absent : w.files.log.len ≤ room w.files.log → length w.mem.table ≤ 256 → length w.mem.touched ≤ 64 →
          length w.mem.resident ≤ frame_count 64 P (length w.frames) → call_no P (Flush p) w ≡ cond (bad_page p) 10 0
      unfolding argument_no
      flush-no-absent hl he ht hr =
          call-quiet P (Flush p) w (ap (λ (v : World). length v.frames) flush-keeps-out) flush-steps-absent (ap (λ (v : World). v.mem.table) flush-keeps-out)
          (ap (λ (v : World). v.mem.resident) flush-keeps-out) hl he hr
          ∙ ap (λ (v : World). or_else (cond (bad_page p) 10 0) (cond (ltb 64 (length v.mem.touched)) 11 0)) flush-keeps-out
          ∙ rw (le-ltb 64 (length w.mem.touched) ht) (ten-first (bad_page p) 0)

    -- a resident page: 10, 4, 5
    module _ (there : is_in p w.mem.resident ≡ true) where
      pub flush-steps-out : steps P (Flush p) w ≡ Log (image p (held_page P w p)) ∷ Page p (held_page P w p) ∷ []
      unfolding steps flush_steps
      flush-steps-out = rw (outside, there)

      pub flush-files-out : (done P (Flush p) w).files ≡ apply P (Page p (held_page P w p)) (apply P (Log (image p (held_page P w p))) w.files)
      unfolding done apply_all
      flush-files-out = rw flush-steps-out

      flush-same : steps P (Flush p) w ≡ flush_steps P p w Empty
      unfolding steps
      flush-same = rw outside

      flush-chain : call_no P (Flush p) w ≡ or_else (cond (bad_page p) 10 0) (chain_of P w (length w.mem.touched) (5 + P) (p * P + P) 0 (length w.mem.table) (length w.mem.resident))
      unfolding argument_no
      flush-chain =
          call-chain P (Flush p) w (ap (λ (v : World). length v.frames) flush-keeps-out) (length w.mem.touched) (5 + P) (p * P + P) 0 (length w.mem.table) (length w.mem.resident)
          (ap (λ (v : World). length v.mem.touched) flush-keeps-out) (ap (sum_of log_bytes) flush-same ∙ flush-log P p w there) (ap (most_of (db_end P)) flush-same ∙ flush-db P p w there)
          (ap (most_of clog_end) flush-same ∙ flush-clog P p w there) (ap (λ (v : World). length v.mem.table) flush-keeps-out) (ap (λ (v : World). length v.mem.resident) flush-keeps-out)

      pub flush-no-out : length w.mem.table ≤ 256 → length w.mem.touched ≤ 64 → length w.mem.resident ≤ frame_count 64 P (length w.frames) →
          call_no P (Flush p) w ≡ cond (bad_page p) 10 (cond (ltb (room w.files.log) (w.files.log.len + (5 + P))) 4 (cond (ltb (room w.files.db) (p * P + P)) 5 0))
      flush-no-out he ht hr =
          flush-chain
          ∙ rw (
            le-ltb 64 (length w.mem.touched) ht,
            le-ltb (room w.files.clog) 0 (omega arith),
            le-ltb 256 (length w.mem.table) he,
            le-ltb (frame_count 64 P (length w.frames)) (length w.mem.resident) hr,
          )
          (ten-first (bad_page p) (cond (ltb (room w.files.log) (w.files.log.len + (5 + P))) 4 (cond (ltb (room w.files.db) (p * P + P)) 5 0)))

      pub flush-fits-out : call_no P (Flush p) w ≡ 0 → Fits P w (length w.mem.touched) (5 + P) (p * P + P) 0 (length w.mem.table) (length w.mem.resident)
      flush-fits-out h = chain_fits P w _ _ _ _ _ _ (both_zero (cond (bad_page p) 10 0) _ (sym flush-chain ∙ h)).1

-- ---- commit

module _ (P : ℕ) (w : World) where
  -- with no transaction: nothing
  module _ (outside : w.mem.slot ≡ Empty) where
    pub commit-steps-empty : steps P Commit w ≡ []
    unfolding steps commit_steps
    commit-steps-empty = rw outside

    pub commit-keeps-empty : keeps P Commit w ≡ w
    unfolding keeps commit_keeps
    commit-keeps-empty = rw outside

    pub commit-no-empty : w.files.log.len ≤ room w.files.log → length w.mem.table ≤ 256 → length w.mem.touched ≤ 64 →
        length w.mem.resident ≤ frame_count 64 P (length w.frames) → call_no P Commit w ≡ 0
    unfolding argument_no
    commit-no-empty hl he ht hr =
        call-quiet P Commit w (ap (λ (v : World). length v.frames) commit-keeps-empty) commit-steps-empty (ap (λ (v : World). v.mem.table) commit-keeps-empty)
        (ap (λ (v : World). v.mem.resident) commit-keeps-empty) hl he hr
        ∙ ap (λ (v : World). cond (ltb 64 (length v.mem.touched)) 11 0) commit-keeps-empty
        ∙ rw (le-ltb 64 (length w.mem.touched) ht)

  module _ (id : TransactionId) (inside : w.mem.slot ≡ Installed id) where
    pub commit-steps : steps P Commit w ≡ commit_steps P w (Installed id)
    unfolding steps
    commit-steps = rw inside

    pub commit-keeps : keeps P Commit w ≡ meta_written P w.files.db (committed id w.mem) w
    unfolding keeps commit_keeps
    commit-keeps = rw inside

    pub commit-mem : (keeps P Commit w).mem ≡ record {
      pages = max w.mem.pages 1;
      next = w.mem.next;
      time = next_time w.mem.time;
      mark = w.mem.mark;
      table = insert_entry (record { id = id; status = Committed w.mem.time }) w.mem.table;
      resident = with_page 0 w.mem.resident;
      slot = Empty;
      touched = [];
    }
    unfolding committed
    commit-mem = ap (λ (v : World). v.mem) commit-keeps ∙ meta-mem P w.files.db (committed id w.mem) w

    pub commit-frames : 36 ≤ P → (keeps P Commit w).frames ≡ with_frame P w.frames (slot_of 0 w.mem.resident) (meta_page P w.mem.next.0 (next_time w.mem.time).0 w.mem.mark.0)
    unfolding committed
    commit-frames h = ap (λ (v : World). v.frames) commit-keeps ∙ meta-frames P w.files.db (committed id w.mem) w h

    pub commit-frames-size : length (keeps P Commit w).frames ≡ length w.frames
    commit-frames-size = ap (λ (v : World). length v.frames) commit-keeps ∙ meta-frames-size P w.files.db (committed id w.mem) w

    -- 4, 5, 6, 7, 8
    pub commit-no : 36 ≤ P → call_no P Commit w ≡
        cond (ltb (room w.files.log) (w.files.log.len + (length (held w.mem) * (5 + P) + 18))) 4
        (cond (ltb (room w.files.db) (max P (most_of (db_end P) (writes P w (held w.mem))))) 5
        (cond (ltb (room w.files.clog) (8 + id.0 / 4 + 1)) 6
        (cond (ltb 256 (length (insert_entry (record { id = id; status = Committed w.mem.time }) w.mem.table))) 7
        (cond (ltb (frame_count 64 P (length w.frames)) (length (with_page 0 w.mem.resident))) 8 0))))
    unfolding argument_no
    commit-no h =
        call-chain P Commit w commit-frames-size 0 (length (held w.mem) * (5 + P) + 18) (max P (most_of (db_end P) (writes P w (held w.mem)))) (8 + id.0 / 4 + 1)
        (length (insert_entry (record { id = id; status = Committed w.mem.time }) w.mem.table)) (length (with_page 0 w.mem.resident))
        (ap (λ (m : Mem). length m.touched) commit-mem) (ap (sum_of log_bytes) commit-steps ∙ commit-log P w id) (ap (most_of (db_end P)) commit-steps ∙ commit-db P w id h)
        (ap (most_of clog_end) commit-steps ∙ commit-clog P w id) (ap (λ (m : Mem). length m.table) commit-mem) (ap (λ (m : Mem). length m.resident) commit-mem)

    pub commit-fits : 36 ≤ P → call_no P Commit w ≡ 0 → Fits P w 0 (length (held w.mem) * (5 + P) + 18) (max P (most_of (db_end P) (writes P w (held w.mem)))) (8 + id.0 / 4 + 1) (length (insert_entry (record { id = id; status = Committed w.mem.time }) w.mem.table)) (length (with_page 0 w.mem.resident))
    commit-fits h e = chain_fits P w _ _ _ _ _ _ (sym (commit-no h) ∙ e)

-- its stores, one after another
pub commit-applied : (P : ℕ) (w : World) (id : TransactionId) (f : Files) → apply_all P (commit_steps P w (Installed id)) f ≡
    apply P (meta_step P (committed id w.mem))
    (apply P Truncate
    (apply P (Log checkpoint)
    (apply P (SetSlot id.0 (Committed w.mem.time))
    (apply_all P (writes P w (held w.mem))
    (apply P (Log (commit id.0 w.mem.time.0))
    (apply_all P (images P w (held w.mem)) f))))))
unfolding commit_steps apply_all
commit-applied P w id f = apply-append P (images P w (held w.mem)) _ f ∙ apply-append P (writes P w (held w.mem)) _ _

pub commit-files : (P : ℕ) (w : World) (id : TransactionId) → w.mem.slot ≡ Installed id → (done P Commit w).files ≡ apply_all P (commit_steps P w (Installed id)) w.files
unfolding done
commit-files P w id inside = rw (commit-steps P w id inside)

-- ---- rollback

-- files, and the frames and memory of a world
abbrev joined : Files → World → World
joined f v = record { files = f; frames = v.frames; mem = v.mem }

done-is : (P : ℕ) (c : Call) (w : World) → done P c w ≡ joined (done P c w).files (keeps P c w)
unfolding done
done-is P c w = refl

-- the stores before meta, one after another
data-applied : (P : ℕ) (w : World) (ps : List ℕ) (f : Files) → 0 < length ps →
    apply_all P (data_steps P w ps) f ≡ apply P Truncate (apply P (Log checkpoint) (apply_all P (writes P w ps) (apply_all P (images P w ps) f)))
unfolding data_steps
data-applied P w [] f h = absurd (omega arith)
data-applied P w (p ∷ ps) f h = rw (apply-append, apply-append) (unfold apply_all in refl)

module _ (P : ℕ) (list : List ℕ) (w : World) (id : TransactionId) (f : Files) where
  pub back-applied-none : data_pages list w.mem ≡ [] → apply_all P (back_steps P list w id) f ≡ apply P (SetSlot id.0 Aborted) (apply P (Log (abort id.0)) f)
  unfolding back_steps data_steps apply_all
  back-applied-none e = rw e

  pub back-applied : 0 < length (data_pages list w.mem) → apply_all P (back_steps P list w id) f ≡
      apply P Truncate
      (apply P (Log checkpoint)
      (apply_all P (writes P w (data_pages list w.mem))
      (apply_all P (images P w (data_pages list w.mem))
      (apply P (SetSlot id.0 Aborted) (apply P (Log (abort id.0)) f)))))
  unfolding back_steps
  back-applied h = unfold apply_all in data-applied P w (data_pages list w.mem) (apply P (SetSlot id.0 Aborted) (apply P (Log (abort id.0)) f)) h

  -- and meta last
  pub rollback-applied : apply_all P (rollback_steps P list w (Installed id)) f ≡ apply P (meta_step P (rolled_back id w.mem)) (apply_all P (back_steps P list w id) f)
  unfolding rollback_steps
  rollback-applied = rw apply-append (unfold apply_all in refl)

module _ (P : ℕ) (list : List ℕ) (w : World) where
  -- with no transaction: 10
  module _ (outside : w.mem.slot ≡ Empty) where
    pub rollback-steps-empty : steps P (Rollback list) w ≡ []
    unfolding steps rollback_steps
    rollback-steps-empty = rw outside

    pub rollback-keeps-empty : keeps P (Rollback list) w ≡ w
    unfolding keeps rollback_keeps
    rollback-keeps-empty = rw outside

    pub rollback-no-empty : w.files.log.len ≤ room w.files.log → length w.mem.table ≤ 256 → length w.mem.touched ≤ 64 →
        length w.mem.resident ≤ frame_count 64 P (length w.frames) → call_no P (Rollback list) w ≡ cond (any_bad list) 10 0
    unfolding argument_no
    rollback-no-empty hl he ht hr =
        call-quiet P (Rollback list) w (ap (λ (v : World). length v.frames) rollback-keeps-empty) rollback-steps-empty (ap (λ (v : World). v.mem.table) rollback-keeps-empty)
        (ap (λ (v : World). v.mem.resident) rollback-keeps-empty) hl he hr
        ∙ ap (λ (v : World). or_else (cond (any_bad list) 10 0) (cond (ltb 64 (length v.mem.touched)) 11 0)) rollback-keeps-empty
        ∙ rw (le-ltb 64 (length w.mem.touched) ht) (ten-first (any_bad list) 0)

  module _ (id : TransactionId) where
    -- the files before meta, and the world with the catalog pages as those files have them
    abbrev pub back_files : Files
    back_files = apply_all P (back_steps P list w id) w.files

    abbrev pub reverted : World
    reverted = revert P back_files.db (catalog_pages list w.mem) w

    pub reverted-mem : reverted.mem ≡ with_counts (raised w.mem.pages (catalog_pages list w.mem)) w.mem.next w.mem.time w.mem.mark w.mem
    reverted-mem = revert-mem P back_files.db (catalog_pages list w.mem) w (catalog-resident w.mem list)

    pub reverted-frames : reverted.frames ≡ refilled P back_files.db w.mem.resident (catalog_pages list w.mem) w.frames
    reverted-frames = revert-frames P back_files.db (catalog_pages list w.mem) w (catalog-resident w.mem list)

    module _ (inside : w.mem.slot ≡ Installed id) where
      pub rollback-steps : steps P (Rollback list) w ≡ rollback_steps P list w (Installed id)
      unfolding steps
      rollback-steps = rw inside

      pub rollback-keeps : keeps P (Rollback list) w ≡ meta_written P back_files.db (rolled_back id reverted.mem) reverted
      unfolding keeps rollback_keeps
      rollback-keeps = rw inside

      pub rollback-mem : (keeps P (Rollback list) w).mem ≡ record {
        pages = max (raised w.mem.pages (catalog_pages list w.mem)) 1;
        next = w.mem.next;
        time = w.mem.time;
        mark = w.mem.mark;
        table = insert_entry (record { id = id; status = Aborted }) w.mem.table;
        resident = with_page 0 w.mem.resident;
        slot = Empty;
        touched = [];
      }
      unfolding rolled_back
      rollback-mem =
          ap (λ (v : World). v.mem) rollback-keeps ∙ meta-mem P back_files.db (rolled_back id reverted.mem) reverted
          ∙ ap (λ (m : Mem). record {
            pages = max m.pages 1;
            next = m.next;
            time = m.time;
            mark = m.mark;
            table = insert_entry (record { id = id; status = Aborted }) m.table;
            resident = with_page 0 m.resident;
            slot = Empty;
            touched = [];
          }) reverted-mem

      pub rollback-frames : 36 ≤ P → (keeps P (Rollback list) w).frames ≡
          with_frame P (refilled P back_files.db w.mem.resident (catalog_pages list w.mem) w.frames) (slot_of 0 w.mem.resident) (meta_page P w.mem.next.0 w.mem.time.0 w.mem.mark.0)
      unfolding rolled_back
      rollback-frames h =
          ap (λ (v : World). v.frames) rollback-keeps ∙ meta-frames P back_files.db (rolled_back id reverted.mem) reverted h
          ∙ ap (λ (m : Mem). with_frame P reverted.frames (slot_of 0 m.resident) (meta_page P m.next.0 m.time.0 m.mark.0)) reverted-mem
          ∙ ap (λ (b : List ℕ). with_frame P b (slot_of 0 w.mem.resident) (meta_page P w.mem.next.0 w.mem.time.0 w.mem.mark.0)) reverted-frames

      pub rollback-frames-size : length (keeps P (Rollback list) w).frames ≡ length w.frames
      rollback-frames-size =
          ap (λ (v : World). length v.frames) rollback-keeps ∙ meta-frames-size P back_files.db (rolled_back id reverted.mem) reverted
          ∙ revert-frames-size P back_files.db (catalog_pages list w.mem) w

      -- 10, 4, 5, 6, 7, 8
      pub rollback-no : 36 ≤ P → call_no P (Rollback list) w ≡
          cond (any_bad list) 10
          (cond (ltb (room w.files.log) (w.files.log.len + sum_of log_bytes (rollback_steps P list w (Installed id)))) 4
          (cond (ltb (room w.files.db) (max P (most_of (db_end P) (writes P w (data_pages list w.mem))))) 5
          (cond (ltb (room w.files.clog) (8 + id.0 / 4 + 1)) 6
          (cond (ltb 256 (length (insert_entry (record { id = id; status = Aborted }) w.mem.table))) 7
          (cond (ltb (frame_count 64 P (length w.frames)) (length (with_page 0 w.mem.resident))) 8 0)))))
      unfolding argument_no
      rollback-no h =
          call-chain P (Rollback list) w rollback-frames-size 0 (sum_of log_bytes (rollback_steps P list w (Installed id))) (max P (most_of (db_end P) (writes P w (data_pages list w.mem)))) (8 + id.0 / 4 + 1)
          (length (insert_entry (record { id = id; status = Aborted }) w.mem.table)) (length (with_page 0 w.mem.resident))
          (ap (λ (m : Mem). length m.touched) rollback-mem) (ap (sum_of log_bytes) rollback-steps) (ap (most_of (db_end P)) rollback-steps ∙ rollback-db P list w id h)
          (ap (most_of clog_end) rollback-steps ∙ rollback-clog P list w id) (ap (λ (m : Mem). length m.table) rollback-mem) (ap (λ (m : Mem). length m.resident) rollback-mem)
          ∙ ten-first (any_bad list) _

      pub rollback-fits : 36 ≤ P → call_no P (Rollback list) w ≡ 0 → Fits P w 0 (sum_of log_bytes (rollback_steps P list w (Installed id))) (max P (most_of (db_end P) (writes P w (data_pages list w.mem)))) (8 + id.0 / 4 + 1) (length (insert_entry (record { id = id; status = Aborted }) w.mem.table)) (length (with_page 0 w.mem.resident))
      rollback-fits h e = chain_fits P w _ _ _ _ _ _ (passed (any_bad list) 10 _ (lit< tt) (sym (rollback-no h) ∙ e)).1

      -- all stores but the last, the revert, then the last: this is the call
      pub rollback-files : (done P (Rollback list) w).files ≡ apply P (meta_step P (rolled_back id w.mem)) back_files
      unfolding done
      rollback-files = rw rollback-steps (rollback-applied P list w id w.files)

      -- meta is the same before and after the revert
      pub rollback-meta : meta_step P (rolled_back id reverted.mem) ≡ meta_step P (rolled_back id w.mem)
      unfolding rolled_back
      rollback-meta = ap (λ (m : Mem). meta_step P m) reverted-mem

      pub rollback-done : done P (Rollback list) w ≡ record {
        files = apply P (meta_step P (rolled_back id reverted.mem)) back_files;
        frames = (meta_written P back_files.db (rolled_back id reverted.mem) reverted).frames;
        mem = (meta_written P back_files.db (rolled_back id reverted.mem) reverted).mem;
      }
      rollback-done =
          done-is P (Rollback list) w ∙ ap (λ (v : World). joined (done P (Rollback list) w).files v) rollback-keeps
          ∙ ap (λ (g : Files). joined g (meta_written P back_files.db (rolled_back id reverted.mem) reverted)) rollback-files
          ∙ ap (λ (s : Step). joined (apply P s back_files) (meta_written P back_files.db (rolled_back id reverted.mem) reverted)) (sym rollback-meta)

-- ---- the mark

module _ (P : ℕ) (v : TransactionId) (w : World) where
  -- not above the old one: nothing
  module _ (below : v.0 ≤ w.mem.mark.0) where
    pub advance-steps-none : steps P (Advance v) w ≡ []
    unfolding steps advance_steps
    advance-steps-none = rw (le-ltb w.mem.mark.0 v.0 below)

    pub advance-keeps-none : keeps P (Advance v) w ≡ w
    unfolding keeps advance_keeps
    advance-keeps-none = rw (le-ltb w.mem.mark.0 v.0 below)

    pub advance-no-none : w.files.log.len ≤ room w.files.log → length w.mem.table ≤ 256 → length w.mem.touched ≤ 64 →
        length w.mem.resident ≤ frame_count 64 P (length w.frames) → call_no P (Advance v) w ≡ 0
    unfolding argument_no
    advance-no-none hl he ht hr =
        call-quiet P (Advance v) w (ap (λ (u : World). length u.frames) advance-keeps-none) advance-steps-none (ap (λ (u : World). u.mem.table) advance-keeps-none)
        (ap (λ (u : World). u.mem.resident) advance-keeps-none) hl he hr
        ∙ ap (λ (u : World). cond (ltb 64 (length u.mem.touched)) 11 0) advance-keeps-none
        ∙ rw (le-ltb 64 (length w.mem.touched) ht)

  module _ (above : w.mem.mark.0 < v.0) where
    pub advance-steps : steps P (Advance v) w ≡ Compact v.0 ∷ meta_step P (advanced v w.mem) ∷ []
    unfolding steps advance_steps
    advance-steps = rw (lt-ltb w.mem.mark.0 v.0 above)

    pub advance-keeps : keeps P (Advance v) w ≡ meta_written P w.files.db (advanced v w.mem) w
    unfolding keeps advance_keeps
    advance-keeps = rw (lt-ltb w.mem.mark.0 v.0 above)

    pub advance-mem : (keeps P (Advance v) w).mem ≡ record {
      pages = max w.mem.pages 1;
      next = w.mem.next;
      time = w.mem.time;
      mark = v;
      table = w.mem.table;
      resident = with_page 0 w.mem.resident;
      slot = w.mem.slot;
      touched = w.mem.touched;
    }
    unfolding advanced
    advance-mem = ap (λ (u : World). u.mem) advance-keeps ∙ meta-mem P w.files.db (advanced v w.mem) w

    pub advance-frames : 36 ≤ P → (keeps P (Advance v) w).frames ≡ with_frame P w.frames (slot_of 0 w.mem.resident) (meta_page P w.mem.next.0 w.mem.time.0 v.0)
    unfolding advanced
    advance-frames h = ap (λ (u : World). u.frames) advance-keeps ∙ meta-frames P w.files.db (advanced v w.mem) w h

    pub advance-frames-size : length (keeps P (Advance v) w).frames ≡ length w.frames
    advance-frames-size = ap (λ (u : World). length u.frames) advance-keeps ∙ meta-frames-size P w.files.db (advanced v w.mem) w

    advance-chain : 36 ≤ P → call_no P (Advance v) w ≡ chain_of P w (length w.mem.touched) 0 P 0 (length w.mem.table) (length (with_page 0 w.mem.resident))
    unfolding argument_no steps
    advance-chain h =
        call-chain P (Advance v) w advance-frames-size (length w.mem.touched) 0 P 0 (length w.mem.table) (length (with_page 0 w.mem.resident))
        (ap (λ (m : Mem). length m.touched) advance-mem) (advance-log P v w above) (advance-db P v w above h) (advance-clog P v w above)
        (ap (λ (m : Mem). length m.table) advance-mem) (ap (λ (m : Mem). length m.resident) advance-mem)

    -- 5, 8
    pub advance-no : 36 ≤ P → w.files.log.len ≤ room w.files.log → length w.mem.table ≤ 256 → length w.mem.touched ≤ 64 → call_no P (Advance v) w ≡
        cond (ltb (room w.files.db) P) 5 (cond (ltb (frame_count 64 P (length w.frames)) (length (with_page 0 w.mem.resident))) 8 0)
    advance-no h hl he ht =
        advance-chain h
        ∙ rw (
          le-ltb 64 (length w.mem.touched) ht,
          le-ltb (room w.files.log) (w.files.log.len + 0) (omega arith),
          le-ltb (room w.files.clog) 0 (omega arith),
          le-ltb 256 (length w.mem.table) he,
        )

    pub advance-fits : 36 ≤ P → call_no P (Advance v) w ≡ 0 → Fits P w (length w.mem.touched) 0 P 0 (length w.mem.table) (length (with_page 0 w.mem.resident))
    advance-fits h e = chain_fits P w _ _ _ _ _ _ (sym (advance-chain h) ∙ e)

    pub advance-files : (done P (Advance v) w).files ≡ apply P (meta_step P (advanced v w.mem)) (apply P (Compact v.0) w.files)
    unfolding done apply_all
    advance-files = rw advance-steps
