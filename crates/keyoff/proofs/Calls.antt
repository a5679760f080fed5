-- Each call keeps the invariant, over its list of stores; so does a run of calls. P is the page size. Assumes nothing.
use mathlib.Core.Path.{◌≡◌, refl, ap, ◌∙◌}
use mathlib.Core.List.{List, [], ◌∷◌}
use mathlib.Core.Bool.{Bool, true, false}
use Prim.Native.Nat.{ℕ, zero, suc, ◌+◌, ◌^◌, ◌≤◌, ◌<◌, max}
use native.Mathlib.Omega.{arith}
use lib.Dec.{lit<}
use lib.ListN.{length}
use borrow.Author.Tests.{leb-false}
use Rattle.fields.specs.declared.TransactionId.{TransactionId}
use Rattle.fields.specs.Files.{room}
use Rattle.fields.proofs.Tests.{Order, less, most, order, passed}
use Rattle.wal.specs.Records.{begin, commit, abort, checkpoint}
use Rattle.wal.proofs.WriteLaws.{page-size}
use Rattle.table.specs.declared.Status.TheVariants.{Active, Committed, Aborted}
use Rattle.table.specs.declared.Entry.{Entry}
use Rattle.table.specs.Entries.{insert_entry}
use Rattle.clog.specs.Slots.{set_slot}
use Rattle.frames.specs.Pages.{is_in, bad_page}
use Rattle.world.specs.declared.Slot.{Slot}
use Rattle.world.specs.declared.Slot.TheVariants.{Installed, Empty}
use Rattle.world.specs.World.{Files, Mem, World}
use Rattle.world.specs.Steps.{Step, Log, SetSlot, Truncate, apply, apply_all, most_of, db_end}
use Rattle.world.specs.Calls.{Call, Install, Uninstall, AllocId, AllocPage, Begin, Read, Write, Flush, Commit, Rollback, Advance, held_page, held, data_pages, committed, rolled_back, advanced, meta_step, images, writes, back_steps, steps, keeps}
use Rattle.world.specs.Refusals.{or_else, front_no, argument_no, call_no, refuses}
use Rattle.world.specs.Run.{done, decided, call, run}
use Rattle.world.proofs.RoomLaws.{held_page-length, rollback-log-none, apply-room-log, apply-room-db, all-room-log, all-room-db, images-db-same, images-clog-same, writes-clog-same, writes-db-len}
use Rattle.world.proofs.FrameLaws.{seat-mem, seat-frames-size, write_mem, write-frames-size}
use Rattle.world.proofs.CallLaws as laws
use Rattle.world.proofs.CallLaws.{call-good}
use Rattle.keyoff.specs.KeyOff.{ZeroFlush, NoZeroFlush, Typed, AllTyped}
use Rattle.keyoff.proofs.Invariant.{Inv, Kept}
use Rattle.keyoff.proofs.Steps.{begin-sign, abort-sign, inv-signed, inv-page, inv-again, inv-advance, inv-fresh}

module _ (P : ℕ) (big : 36 ≤ P) (w : World) (v : Kept P w) where
  -- what an accepted call leaves, by its files, its table and its mark; frame buffers keep their size
  left : (c : Call) (g : Files) (table : List Entry) (mark : ℕ) → (done P c w).files ≡ g → length (keeps P c w).frames ≡ length w.frames →
      (keeps P c w).mem.table ≡ table → (keeps P c w).mem.mark.0 ≡ mark → Inv P g (length w.frames) table mark → Kept P (done P c w)
  unfolding done
  left c g table mark a b d e i = rw (a, b, d, e) i

  -- a call with no store, that leaves table and mark
  quiet : (c : Call) → steps P c w ≡ [] → length (keeps P c w).frames ≡ length w.frames → (keeps P c w).mem.table ≡ w.mem.table →
      (keeps P c w).mem.mark ≡ w.mem.mark → Kept P (done P c w)
  unfolding done apply_all
  quiet c s b d e = left c w.files w.mem.table w.mem.mark.0 (rw s) b d (rw e) v

  -- one that leaves all of memory and frames as it was
  idle : (c : Call) → steps P c w ≡ [] → keeps P c w ≡ w → Kept P (done P c w)
  idle c s e = quiet c s (rw e) (rw e) (rw e)

  -- ---- begin

  begin-keeps : (id : TransactionId) → call_no P (Begin id) w ≡ 0 → Kept P (done P (Begin id) w)
  begin-keeps id ok =
      let a = laws.begin-fits P id w ok in
      left (Begin id) _ _ _ (laws.begin-files P id w) (ap length (laws.begin-frames P id w)) (ap (λ (m : Mem). m.table) (laws.begin-mem P id w))
      (ap (λ (m : Mem). m.mark.0) (laws.begin-mem P id w))
      (inv-signed P big w.files (length w.frames) w.mem.table w.mem.mark.0 v (begin id.0) id.0 Active (begin-sign id.0)
      (omega (arith, a.clog-fits)) a.log-fits a.entries_fit)

  -- ---- flush

  page-good : (p : ℕ) → call_no P (Flush p) w ≡ 0 → p < 4294967295
  unfolding argument_no
  page-good p ok = leb-false 4294967295 p (passed (bad_page p) 10 0 (lit< tt) (call-good P (Flush p) w ok)).0

  flush-resident : (p : ℕ) → 0 < p → w.mem.slot ≡ Empty → is_in p w.mem.resident ≡ true → call_no P (Flush p) w ≡ 0 → Kept P (done P (Flush p) w)
  flush-resident p p0 out there ok =
      let a = laws.flush-fits-out P p w out there ok in
      let e : length (held_page P w p) ≡ P = held_page-length P w p in
      let k = laws.flush-keeps-out P p w out in
      left (Flush p) _ _ _ (laws.flush-files-out P p w out there) (ap (λ (u : World). length u.frames) k) (ap (λ (u : World). u.mem.table) k)
      (ap (λ (u : World). u.mem.mark.0) k)
      (inv-page P big w.files (length w.frames) w.mem.table w.mem.mark.0 v p (held_page P w p) p0 (page-good p ok) e
      (omega (arith, a.log-fits, page-size P p (held_page P w p) e)) (omega (arith, a.db-fits)))

  flush-keeps : (p : ℕ) → (ZeroFlush P (Flush p) w → ⊥) → refuses P (Flush p) w ≡ 0 → call_no P (Flush p) w ≡ 0 → Kept P (done P (Flush p) w)
  flush-keeps p n zero-no ok = by-slot w.mem.slot refl
    where
      not-zero : w.mem.slot ≡ Empty → p ≡ 0 → ⊥
      not-zero out z = n (record { asked = ap (λ (q : ℕ). Flush q) z; outside = out; accepted = zero-no })

      outside : w.mem.slot ≡ Empty → (x : Bool) → is_in p w.mem.resident ≡ x → Kept P (done P (Flush p) w)
      outside out true there = flush-resident p (omega (arith, not-zero out)) out there ok
      outside out false absent = idle (Flush p) (laws.flush-steps-absent P p w out absent) (laws.flush-keeps-out P p w out)

      by-slot : (s : Slot) → w.mem.slot ≡ s → Kept P (done P (Flush p) w)
      by-slot (Installed id) inside =
          let m = laws.flush-mem-in P p w id inside in
          quiet (Flush p) (laws.flush-steps-in P p w id inside) (ap length (laws.flush-frames-in P p w id inside))
          (ap (λ (u : Mem). u.table) m) (ap (λ (u : Mem). u.mark) m)
      by-slot Empty out = outside out (is_in p w.mem.resident) refl

  -- ---- commit, and rollback with data pages: stores before the log is cut back. Each keeps the size of the buffers

  record Sized (g : Files) : Type 0 where
    log : room g.log ≡ room w.files.log
    db : room g.db ≡ room w.files.db

  one : (s : Step) (g : Files) → Sized g → Sized (apply P s g)
  one s g z = record { log = apply-room-log P s g ∙ z.log; db = apply-room-db P s g ∙ z.db }

  all : (ss : List Step) (g : Files) → Sized g → Sized (apply_all P ss g)
  all ss g z = record { log = all-room-log P ss g ∙ z.log; db = all-room-db P ss g ∙ z.db }

  none : Sized w.files
  none = record { log = refl; db = refl }

  module _ (id : TransactionId) where
    -- pages logged, the commit logged, pages written
    abbrev imaged : Files
    imaged = apply_all P (images P w (held w.mem)) w.files

    abbrev logged : Files
    logged = apply P (Log (commit id.0 w.mem.time.0)) imaged

    abbrev written : Files
    written = apply_all P (writes P w (held w.mem)) logged

    committing : Files
    committing = apply P (Log checkpoint) (apply P (SetSlot id.0 (Committed w.mem.time)) written)

    committing-sized : Sized committing
    unfolding committing
    committing-sized = one _ _ (one _ written (all _ logged (one _ imaged (all _ w.files none))))

    committing-clog : committing.clog ≡ set_slot 8 id.0 2 w.files.clog
    unfolding committing apply
    committing-clog = ap (set_slot 8 id.0 2) (writes-clog-same P w (held w.mem) logged ∙ images-clog-same P w (held w.mem) w.files)

    committing-len : committing.db.len ≡ max w.files.db.len (most_of (db_end P) (writes P w (held w.mem)))
    unfolding committing apply
    committing-len = writes-db-len P w (held w.mem) logged ∙ rw (images-db-same P w (held w.mem) w.files)

    commit-in : w.mem.slot ≡ Installed id → call_no P Commit w ≡ 0 → Kept P (done P Commit w)
    unfolding committed committing
    commit-in inside ok =
        let a = laws.commit-fits P w id inside big ok in
        let m = laws.commit-mem P w id inside in
        left Commit _ _ _ (laws.commit-files P w id inside ∙ laws.commit-applied P w id w.files) (laws.commit-frames-size P w id inside)
        (ap (λ (u : Mem). u.table) m) (ap (λ (u : Mem). u.mark.0) m)
        (inv-fresh P big w.files (length w.frames) w.mem.table w.mem.mark.0 v committing _ _ id.0 (Committed w.mem.time) committing-clog
        committing-sized.log committing-sized.db (omega (arith, committing-len, a.db-fits, v.db-len)) (omega (arith, a.clog-fits))
        (omega (arith, a.db-fits)) a.entries_fit)

  commit-keeps : call_no P Commit w ≡ 0 → Kept P (done P Commit w)
  commit-keeps ok = go w.mem.slot refl
    where
      go : (s : Slot) → w.mem.slot ≡ s → Kept P (done P Commit w)
      go (Installed id) inside = commit-in id inside ok
      go Empty out = idle Commit (laws.commit-steps-empty P w out) (laws.commit-keeps-empty P w out)

  -- ---- rollback

  module _ (list : List ℕ) (id : TransactionId) where
    -- the abort logged and recorded
    abbrev marked : Files
    marked = apply P (SetSlot id.0 Aborted) (apply P (Log (abort id.0)) w.files)

    -- what both ways leave of memory and frames
    back-left : w.mem.slot ≡ Installed id → (g : Files) → apply_all P (back_steps P list w id) w.files ≡ g →
        Inv P (apply P (meta_step P (rolled_back id w.mem)) g) (length w.frames)
        (insert_entry (record { id = id; status = Aborted }) w.mem.table) w.mem.mark.0 →
        Kept P (done P (Rollback list) w)
    back-left inside g e i =
        let m = laws.rollback-mem P list w id inside in
        left (Rollback list) _ _ _ (laws.rollback-files P list w id inside ∙ ap (apply P (meta_step P (rolled_back id w.mem))) e)
        (laws.rollback-frames-size P list w id inside) (ap (λ (u : Mem). u.table) m) (ap (λ (u : Mem). u.mark.0) m) i

    -- with no data page: then meta
    back_none : w.mem.slot ≡ Installed id → data_pages list w.mem ≡ [] → call_no P (Rollback list) w ≡ 0 → Kept P (done P (Rollback list) w)
    unfolding rolled_back
    back_none inside e ok =
        let a = laws.rollback-fits P list w id inside big ok in
        let l : w.files.log.len + 9 ≤ room w.files.log = omega (arith, a.log-fits, rollback-log-none P list w id e) in
        back-left inside marked (laws.back-applied-none P list w id w.files e)
        (inv-again P big marked (length w.frames) _ w.mem.mark.0
        (inv-signed P big w.files (length w.frames) w.mem.table w.mem.mark.0 v (abort id.0) id.0 Aborted (abort-sign id.0)
        (omega (arith, a.clog-fits)) l a.entries_fit) _ _
        (omega (arith, a.db-fits, (one (SetSlot id.0 Aborted) _ (one (Log (abort id.0)) w.files none)).db)))

    -- with data pages: logged, written, the log cut back, then meta
    abbrev pages : List ℕ
    pages = data_pages list w.mem

    abbrev backed : Files
    backed = apply_all P (images P w pages) marked

    backing : Files
    backing = apply P (Log checkpoint) (apply_all P (writes P w pages) backed)

    backing-sized : Sized backing
    unfolding backing
    backing-sized = one _ _ (all _ backed (all _ marked (one _ _ (one _ w.files none))))

    backing-clog : backing.clog ≡ set_slot 8 id.0 3 w.files.clog
    unfolding backing apply
    backing-clog = writes-clog-same P w pages backed ∙ images-clog-same P w pages marked

    backing-len : backing.db.len ≡ max w.files.db.len (most_of (db_end P) (writes P w pages))
    unfolding backing apply
    backing-len = writes-db-len P w pages backed ∙ rw (images-db-same P w pages marked)

    back_some : w.mem.slot ≡ Installed id → 0 < length (data_pages list w.mem) → call_no P (Rollback list) w ≡ 0 → Kept P (done P (Rollback list) w)
    unfolding rolled_back backing
    back_some inside h ok =
        let a = laws.rollback-fits P list w id inside big ok in
        back-left inside (apply P Truncate backing) (laws.back-applied P list w id w.files h)
        (inv-fresh P big w.files (length w.frames) w.mem.table w.mem.mark.0 v backing _ _ id.0 Aborted backing-clog backing-sized.log
        backing-sized.db (omega (arith, backing-len, a.db-fits, v.db-len)) (omega (arith, a.clog-fits)) (omega (arith, a.db-fits)) a.entries_fit)

    back_in : w.mem.slot ≡ Installed id → call_no P (Rollback list) w ≡ 0 → Kept P (done P (Rollback list) w)
    back_in inside ok = go (data_pages list w.mem) refl
      where
        go : (ps : List ℕ) → data_pages list w.mem ≡ ps → Kept P (done P (Rollback list) w)
        go [] e = back_none inside e ok
        go (p ∷ ps) e = back_some inside (rw e (omega arith)) ok

  rollback-keeps : (list : List ℕ) → call_no P (Rollback list) w ≡ 0 → Kept P (done P (Rollback list) w)
  rollback-keeps list ok = go w.mem.slot refl
    where
      go : (s : Slot) → w.mem.slot ≡ s → Kept P (done P (Rollback list) w)
      go (Installed id) inside = back_in list id inside ok
      go Empty out = idle (Rollback list) (laws.rollback-steps-empty P list w out) (laws.rollback-keeps-empty P list w out)

  -- ---- the mark

  advance-above : (u : TransactionId) → w.mem.mark.0 < u.0 → u.0 < 2 ^ 64 → call_no P (Advance u) w ≡ 0 → Kept P (done P (Advance u) w)
  unfolding advanced
  advance-above u h small ok =
      let a = laws.advance-fits P u w h big ok in
      let m = laws.advance-mem P u w h in
      left (Advance u) _ _ _ (laws.advance-files P u w h) (laws.advance-frames-size P u w h) (ap (λ (x : Mem). x.table) m) (ap (λ (x : Mem). x.mark.0) m)
      (inv-advance P big w.files (length w.frames) w.mem.table w.mem.mark.0 v _ _ u.0 (omega arith) small (omega (arith, a.db-fits)))

  advance-keeps : (u : TransactionId) → u.0 < 2 ^ 64 → call_no P (Advance u) w ≡ 0 → Kept P (done P (Advance u) w)
  advance-keeps u small ok = go (order w.mem.mark.0 u.0)
    where
      go : Order w.mem.mark.0 u.0 → Kept P (done P (Advance u) w)
      go (less h) = advance-above u h small ok
      go (most h) = idle (Advance u) (laws.advance-steps-none P u w h) (laws.advance-keeps-none P u w h)

  -- ---- each call

  or-zero : (a b : ℕ) → or_else a b ≡ 0 → b ≡ 0
  or-zero zero b h = h
  or-zero (suc a) b h = absurd (omega arith)

  accepted : (c : Call) → refuses P c w ≡ 0 → call_no P c w ≡ 0
  unfolding refuses
  accepted c h = or-zero (front_no P w) (call_no P c w) h

  done-keeps : (c : Call) → (ZeroFlush P c w → ⊥) → Typed c → refuses P c w ≡ 0 → Kept P (done P c w)
  unfolding steps keeps
  done-keeps (Install id ps) n t h = quiet (Install id ps) refl refl refl refl
  done-keeps Uninstall n t h = quiet Uninstall refl refl refl refl
  done-keeps AllocId n t h = quiet AllocId refl refl refl refl
  done-keeps AllocPage n t h = quiet AllocPage refl refl refl refl
  done-keeps (Begin id) n t h = begin-keeps id (accepted (Begin id) h)
  done-keeps (Read p) n t h =
      let m = seat-mem P w.files.db p w in
      quiet (Read p) refl (seat-frames-size P w.files.db p w) (ap (λ (x : Mem). x.table) m) (ap (λ (x : Mem). x.mark) m)
  done-keeps (Write p bytes) n t h =
      let m = write_mem P w.files.db p bytes w in
      quiet (Write p bytes) refl (write-frames-size P w.files.db p bytes w) (ap (λ (x : Mem). x.table) m) (ap (λ (x : Mem). x.mark) m)
  done-keeps (Flush p) n t h = flush-keeps p n h (accepted (Flush p) h)
  done-keeps Commit n t h = commit-keeps (accepted Commit h)
  done-keeps (Rollback list) n t h = rollback-keeps list (accepted (Rollback list) h)
  done-keeps (Advance u) n t h = advance-keeps u (t u refl) (accepted (Advance u) h)

  -- a refused one leaves the world as it was
  pub call-keeps : (c : Call) → (ZeroFlush P c w → ⊥) → Typed c → Kept P (call P c w)
  unfolding call
  call-keeps c n t = go (refuses P c w) refl
    where
      go : (k : ℕ) → refuses P c w ≡ k → Kept P (decided k (done P c w) w)
      go zero h = done-keeps c n t h
      go (suc k) h = v

pub run-keeps : (P : ℕ) → 36 ≤ P → (cs : List Call) (w : World) → Kept P w → NoZeroFlush P cs w → AllTyped cs → Kept P (run P cs w)
unfolding run
run-keeps P big [] w v n t = v
run-keeps P big (c ∷ cs) w v n t = run-keeps P big cs (call P c w) (call-keeps P big w v c n.0 t.0) n.1 t.1
