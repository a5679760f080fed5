-- Commit, cut anywhere: before its record is whole in the log, and from then on. P is the page size. Assumes nothing.
use mathlib.Core.Path.{◌≡◌, refl, sym, ap, ◌∙◌, subst}
use mathlib.Core.List.{List, [], ◌∷◌, ◌++◌, append_assoc, append-nil}
use mathlib.Core.Bool.{Bool, true, false}
use Prim.Native.Nat.{ℕ, zero, suc, ◌+◌, ◌-◌, ◌*◌, ◌/◌, ◌^◌, ◌≤◌, ◌<◌, max}
use native.Mathlib.Omega.{arith}
use lib.ListN.{length}
use borrow.Author.Tests.{lt-ltb, le-ltb, le-leb, lt-leb, eq-eqb, ne_eqb}
use Rattle.fields.specs.declared.TransactionId.{TransactionId}
use Rattle.fields.specs.declared.CommitTime.{CommitTime}
use Rattle.fields.specs.Files.{File, room}
use Rattle.fields.proofs.Tests.{Order, less, most, order}
use Rattle.fields.proofs.FileLaws.{lay-room, lay-len}
use Rattle.wal.specs.Records.{Record, commit, checkpoint, encode}
use Rattle.wal.proofs.WriteLaws.{commit-size}
use Rattle.table.specs.declared.Status.{Status}
use Rattle.table.specs.declared.Status.TheVariants.{Committed}
use Rattle.std.specs.Prelude.{Some}
use Rattle.table.specs.Entries.{insert_entry}
use Rattle.table.proofs.Facts.{or_known, settled_known}
use Rattle.clog.specs.Slots.{code_of, set_slot}
use Rattle.meta.specs.Page.{meta_page}
use Rattle.frames.specs.Pages.{is_in, with_page}
use Rattle.frames.proofs.Lists.{in-none}
use Rattle.world.specs.declared.Slot.TheVariants.{Installed, Empty}
use Rattle.world.specs.World.{Files, World}
use Rattle.world.specs.Steps.{Step, Log, Page, SetSlot, Truncate, apply, apply_all, most_of, db_end}
use Rattle.world.specs.Calls.{Commit, held, images, writes, meta_step, committed, commit_steps, steps}
use Rattle.world.specs.Refusals.{call_no}
use Rattle.world.proofs.RoomLaws.{images-db-same, images-clog-same, images-log-len, all-room-log}
use Rattle.world.proofs.Counts.{images-count}
use Rattle.world.proofs.FormLaws.{InForm}
use Rattle.world.proofs.FrameLaws.{keep-good, keep_out}
use Rattle.world.proofs.CallLaws as laws
use Rattle.opening.specs.Opening.{records}
use Rattle.opening.proofs.Tables.{last_word}
use Rattle.opening.proofs.Replays.{imaged_all}
use Rattle.opening.proofs.Pages.{images_of}
use Rattle.partway.specs.Partway.{apply_to, cut_all}
use Rattle.partway.proofs.Laws.{all-front, all_back, cut-cons, cut-join}
use Rattle.keyoff.specs.KeyOff.{kept}
use Rattle.keyoff.proofs.Steps.{entry}
use Rattle.keyoff.proofs.Invariant.{Kept}
use Rattle.keyturn.specs.KeyTurn.{record_whole}
use Rattle.keyturn.proofs.Asked.{Asked, written}
use Rattle.keyturn.proofs.Logs.{LogIs, LogWhole, whole_is, log-part, log-done, log-whole}
use Rattle.keyturn.proofs.Clogs.{loads, SlotCut, not_yet, whole, slot-to}
use Rattle.keyturn.proofs.Dbs.{byte_of}
use Rattle.keyturn.proofs.Mid as mid
use Rattle.keyturn.proofs.Parts.{AllFine, Logging, cut-images, whole-images, Writing, cut-writes, whole-writes, writes_bytes}
use Rattle.keyturn.proofs.Build.{Reached}
use Rattle.keyturn.proofs.Adds.{Adds, adds_none, adds-images, adds-word, word-said, own-id, DbKept, ClogKept, clog-is, log_is, db-same, clog-stays, clog-same, clog-set, half-pages}
use Rattle.keyturn.proofs.Walk.{early}
use Rattle.keyturn.proofs.Long.{fine-pages, db-moved, logged-state, tail_turned}

-- ---- is the record whole

module _ (id time n : ℕ) where
  whole-not : (k pos : ℕ) → k ≤ n → record_whole id time n k pos ≡ false
  unfolding record_whole
  whole-not k pos h = rw (le-ltb (suc n) k (omega arith), ne_eqb k (suc n) (λ e. omega arith))

  whole_part : (pos : ℕ) → pos < length (encode (commit id time)) → record_whole id time n (suc n) pos ≡ false
  unfolding record_whole
  whole_part pos h = rw (le-ltb (suc n) (suc n) (omega arith), eq-eqb (suc n) (suc n) refl, lt-leb (length (encode (commit id time))) pos h)

  whole-now : (pos : ℕ) → length (encode (commit id time)) ≤ pos → record_whole id time n (suc n) pos ≡ true
  unfolding record_whole
  whole-now pos h = rw (le-ltb (suc n) (suc n) (omega arith), eq-eqb (suc n) (suc n) refl, le-leb (length (encode (commit id time))) pos h)

  whole-behind : (k pos : ℕ) → suc n < k → record_whole id time n k pos ≡ true
  unfolding record_whole
  whole-behind k pos h = rw (lt-ltb (suc n) k h)

module _ (P : ℕ) (big : 36 ≤ P) (w : World) (v : Kept P w) (form : InForm P w) (id : TransactionId) (inside : w.mem.slot ≡ Installed id) (q : Asked P Commit w)
    (ok : call_no P Commit w ≡ 0) (timely : w.mem.time.0 < 2 ^ 64) where
  abbrev old : List Record
  old = records P w.files.log

  abbrev ps : List ℕ
  ps = held w.mem

  abbrev r : Record
  r = commit id.0 w.mem.time.0

  abbrev s : Status
  s = Committed w.mem.time

  abbrev Uncounted : Files → Type 0
  Uncounted g = Reached P false Commit w g

  abbrev Counted : Files → Type 0
  Counted g = Reached P true Commit w g

  pages-are : written Commit w ≡ ps
  unfolding written
  pages-are = rw inside

  fits : laws.Fits P w 0 (length (held w.mem) * (5 + P) + 18) (max P (most_of (db_end P) (writes P w (held w.mem)))) (8 + id.0 / 4 + 1) (length (insert_entry (record { id = id; status = Committed w.mem.time }) w.mem.table)) (length (with_page 0 w.mem.resident))
  fits = laws.commit-fits P w id inside big ok

  fit : 8 + id.0 / 4 < room w.files.clog
  fit = omega (arith, fits.clog-fits)

  fine : AllFine P (room w.files.db) ps
  unfolding held
  fine = fine-pages P (room w.files.db) w ps (keep-good _ w.mem.touched form.touched-good) (keep_out _ 0 w.mem.touched (q.zero id inside)) (omega (arith, fits.db-fits))

  fine-written : AllFine P (room w.files.db) (written Commit w)
  fine-written = rw pages-are fine

  record-size : length (encode r) ≡ 17
  record-size = commit-size id.0 w.mem.time.0

  sound : (id.0 < 2 ^ 64) × (w.mem.time.0 < 2 ^ 64)
  sound = (omega (arith, fit, v.clog-size), timely)

  start : LogWhole P w.files.log (old ++ images_of P w [])
  unfolding images_of
  start = rw append-nil (log_is P w v)

  space : w.files.log.len + length ps * (5 + P) ≤ room w.files.log
  space = omega (arith, fits.log-fits)

  -- ---- images

  to-images : (k pos : ℕ) → Uncounted (cut_all P k pos (images P w ps) w.files)
  to-images k pos =
      let g = cut_all P k pos (images P w ps) w.files in
      let l : Logging P w old ps w.files (cut_all P k pos (images P w ps) w.files) =
      cut-images P w old (room w.files.db) ps fine ps [] w.files (λ x h. in-none x h) (λ x h. h) start space k pos in
      early P big w v Commit q (images_of P w l.pages) g l.log
      (adds-images P Empty _ _ w l.pages (λ x h. fine x (l.within x h))) (db-same P w v _ g l.db) (clog-same P w v g Empty w.mem.mark.0 l.clog)
      (rw pages-are (half-pages P w v [] l.pages ps g (λ i b. unfold imaged_all in refl) l.within l.db))

  -- ---- the record

  abbrev imaged1 : Files
  imaged1 = apply_all P (images P w ps) w.files

  log1 : LogWhole P imaged1.log (old ++ images_of P w ps)
  log1 = whole-images P w old (room w.files.db) ps fine ps [] w.files (λ x h. in-none x h) (λ x h. h) start space

  room1 : imaged1.log.len + 18 ≤ room imaged1.log
  room1 = omega (arith, images-log-len P w ps w.files, all-room-log P (images P w ps) w.files, fits.log-fits)

  room-record : imaged1.log.len + length (encode r) ≤ room imaged1.log
  room-record = omega (arith, room1, record-size)

  db1 : imaged1.db ≡ w.files.db
  db1 = images-db-same P w ps w.files

  clog1 : imaged1.clog ≡ w.files.clog
  clog1 = images-clog-same P w ps w.files

  record-part : (pos : ℕ) → pos < length (encode r) → Uncounted (apply_to P pos (Log r) imaged1)
  record-part pos h =
      let g = apply_to P pos (Log r) imaged1 in
      let t = log-part P imaged1 (old ++ images_of P w ps) r log1 sound room-record pos h in
      early P big w v Commit q (images_of P w ps) g t.0 (adds-images P Empty _ _ w ps fine) (db-same P w v _ g (t.1 ∙ db1))
      (clog-same P w v g Empty w.mem.mark.0 (t.2 ∙ clog1))
      (rw pages-are (half-pages P w v [] ps ps g (λ i b. unfold imaged_all in refl) (λ x h. h) (t.1 ∙ db1)))

  -- ---- from here on it counts

  abbrev logged2 : Files
  logged2 = apply P (Log r) imaged1

  log2 : LogWhole P logged2.log (old ++ (images_of P w (written Commit w) ++ (r ∷ [])))
  log2 = rw (pages-are, ← append_assoc old (images_of P w ps) (r ∷ [])) (log-whole P imaged1 (old ++ images_of P w ps) r log1 sound room-record)

  room2 : logged2.log.len + 1 ≤ room logged2.log
  unfolding apply
  room2 = omega (arith, lay-len imaged1.log imaged1.log.len (encode r), lay-room imaged1.log imaged1.log.len (encode r), room1, record-size)

  db2 : logged2.db ≡ w.files.db
  unfolding apply
  db2 = db1

  clog2 : logged2.clog ≡ w.files.clog
  unfolding apply
  clog2 = clog1

  said : (t : CommitTime) × (settled_known (Some s) ≡ Some (Committed t))
  said = (w.mem.time, refl)

  slotted : (t : CommitTime) × (kept (Some s) ≡ Some (Committed t))
  slotted = (record { 0 = 0 }, refl)

  none-plain : (i b : ℕ) → imaged_all P [] i b ≡ b
  unfolding imaged_all
  none-plain i b = refl

  record-plain : (i b : ℕ) → imaged_all P (r ∷ []) i b ≡ b
  unfolding imaged_all
  record-plain i b = refl

  word : or_known (last_word id.0 (r ∷ [])) (last_word id.0 []) ≡ Some s
  word = rw (word-said r (entry id.0 s) refl)

  adds-record : Adds P (Installed id) (room w.files.db) (room w.files.clog) (r ∷ [])
  adds-record = adds-word P (Installed id) _ _ r (entry id.0 s) refl tt fit (own-id id)

  -- all images and the record in the log
  counted-state : (g : Files) → LogIs P g.log (old ++ (images_of P w (written Commit w) ++ (r ∷ []))) → DbKept P w w.mem.mark.0 g → ClogKept w (Installed id) w.mem.mark.0 g →
      ((p i : ℕ) → 0 < p → is_in p (written Commit w) ≡ false → i < P → byte_of g.db (p * P + i) ≡ byte_of w.files.db (p * P + i)) → Counted g
  counted-state g l d k out =
      logged-state P big w v Commit true id s inside fit fits.entries_fit said slotted fine-written 0 0 [] (r ∷ []) none-plain record-plain
      (adds_none P (Installed id) _ _) adds-record word g l d k out

  writing-state : (g : Files) → Writing P ps logged2 g → ((t : ℕ) → loads g.clog t ≡ loads w.files.clog t) → Counted g
  writing-state g t c =
      counted-state g (rw t.log (whole_is P logged2.log _ log2))
      (record { size = t.size ∙ ap room db2; fits = t.fits; mark = w.mem.mark.0; stands = t.stands w.mem.mark.0 (rw db2 v.page); among = mid.old refl })
      (clog-same P w v g (Installed id) w.mem.mark.0 (t.clog ∙ clog2))
      (λ p i h n u. t.out p i (rw pages-are at n) u ∙ ap (λ (f : File). byte_of f (p * P + i)) db2)

  to-writes : (k pos : ℕ) → Counted (cut_all P k pos (writes P w ps) logged2)
  to-writes k pos =
      let t : Writing P ps logged2 (cut_all P k pos (writes P w ps) logged2) =
      cut-writes P big w (room w.files.db) ps fine ps logged2 (λ x h. h) (rw db2 v.db-len) (ap room db2) k pos in
      writing-state _ t (λ x. ap (λ (f : File). loads f x) (t.clog ∙ clog2))

  -- ---- the slot

  abbrev written3 : Files
  written3 = apply_all P (writes P w ps) logged2

  writing3 : Writing P ps logged2 written3
  writing3 = whole-writes P big w (room w.files.db) ps fine ps logged2 (λ x h. h) (rw db2 v.db-len) (ap room db2)

  clog3 : written3.clog ≡ w.files.clog
  clog3 = writing3.clog ∙ clog2

  db3 : DbKept P w w.mem.mark.0 written3
  db3 = record { size = writing3.size ∙ ap room db2; fits = writing3.fits; mark = w.mem.mark.0; stands = writing3.stands w.mem.mark.0 (rw db2 v.page); among = mid.old refl }

  bytes3 : (p i : ℕ) → 0 < p → i < P → byte_of written3.db (p * P + i) ≡ imaged_all P (images_of P w (written Commit w)) (p * P + i) (byte_of w.files.db (p * P + i))
  bytes3 p i h u =
      rw pages-are
      (writes_bytes P w ps logged2 (rw db2 fine) (rw db2 v.db-len) (p * P + i) ∙ ap (λ (f : File). imaged_all P (images_of P w ps) (p * P + i) (byte_of f (p * P + i))) db2)

  slot-state : (g : Files) → g.log ≡ written3.log → g.db ≡ written3.db → ClogKept w (Installed id) w.mem.mark.0 g → Counted g
  slot-state g l d k =
      counted-state g (rw (l ∙ writing3.log) (whole_is P logged2.log _ log2)) (db-moved P big w v _ written3 g d db3) k
      (λ p i h n u. ap (λ (f : File). byte_of f (p * P + i)) d ∙ writing3.out p i (rw pages-are at n) u ∙ ap (λ (f : File). byte_of f (p * P + i)) db2)

  abbrev slotted4 : Files
  slotted4 = apply P (SetSlot id.0 s) written3

  clog4 : slotted4.clog ≡ set_slot 8 id.0 (code_of s) w.files.clog
  unfolding apply
  clog4 = ap (set_slot 8 id.0 2) clog3

  to-slot : (pos : ℕ) → Counted (apply_to P pos (SetSlot id.0 s) written3)
  to-slot pos = go (slot-to P id.0 s written3 (rw clog3 (clog-is P w v)) (rw clog3 fit) pos)
    where
      go : SlotCut P id.0 s written3 (apply_to P pos (SetSlot id.0 s) written3) → Counted (apply_to P pos (SetSlot id.0 s) written3)
      go (not_yet t) =
          slot-state _ t.log t.db
          (clog-stays P w v _ (Installed id) w.mem.mark.0 (t.size ∙ ap room clog3) t.is (λ x. t.slots x ∙ ap (λ (f : File). loads f x) clog3))
      go (whole e) =
          rw e (slot-state slotted4 (unfold apply in refl) (unfold apply in refl) (clog-set P w v slotted4 id s w.mem.mark.0 clog4 fit))

  -- ---- and the rest

  log4 : slotted4.log ≡ logged2.log
  unfolding apply
  log4 = writing3.log

  db4 : slotted4.db ≡ written3.db
  unfolding apply
  db4 = refl

  to-tail : (next time k pos : ℕ) → Counted (cut_all P k pos (Log checkpoint ∷ Truncate ∷ Page 0 (meta_page P next time w.mem.mark.0) ∷ []) slotted4)
  to-tail next time =
      tail_turned P big w v Commit true id s inside fit fits.entries_fit said slotted fine-written next time [] (r ∷ []) none-plain record-plain
      (adds_none P (Installed id) _ _) adds-record word slotted4 (rw log4 log2) (rw log4 room2) (db-moved P big w v _ written3 slotted4 db4 db3) clog4
      (λ p i h u. ap (λ (f : File). byte_of f (p * P + i)) db4 ∙ bytes3 p i h u)

  abbrev rest : List Step
  rest = writes P w ps ++ (SetSlot id.0 s ∷ Log checkpoint ∷ Truncate ∷ meta_step P (committed id w.mem) ∷ [])

  to-rest : (k pos : ℕ) → Counted (cut_all P k pos rest logged2)
  unfolding committed
  to-rest = cut-join P Counted (writes P w ps) (SetSlot id.0 s ∷ Log checkpoint ∷ Truncate ∷ meta_step P (committed id w.mem) ∷ []) logged2 to-writes
      (cut-cons P Counted (SetSlot id.0 s) (Log checkpoint ∷ Truncate ∷ meta_step P (committed id w.mem) ∷ []) written3 to-slot (to-tail _ _))

  -- ---- all of it

  abbrev By : Bool → Files → Type 0
  By b g = Reached P b Commit w g

  is_whole : ℕ → ℕ → Bool
  is_whole k pos = record_whole id.0 w.mem.time.0 (length ps) k pos

  from-record : (j pos : ℕ) → By (is_whole (length ps + suc j) pos) (cut_all P (suc j) pos (Log r ∷ rest) imaged1)
  unfolding is_whole cut_all
  from-record zero pos = go (order pos (length (encode r)))
    where
      e : length ps + 1 ≡ suc (length ps)
      e = omega arith

      go : Order pos (length (encode r)) → By (record_whole id.0 w.mem.time.0 (length ps) (length ps + 1) pos) (cut_all P 1 pos (Log r ∷ rest) imaged1)
      go (less h) = rw (e, whole_part id.0 w.mem.time.0 (length ps) pos h) (record-part pos h)
      go (most h) =
          rw (e, whole-now id.0 w.mem.time.0 (length ps) pos h, log-done P imaged1 (old ++ images_of P w ps) r pos h)
          (to-rest 0 0)
  from-record (suc j) pos =
      rw (whole-behind id.0 w.mem.time.0 (length ps) (length ps + suc (suc j)) pos (omega arith)) (to-rest (suc j) pos)

  pub commit-turned : (k pos : ℕ) → By (record_whole id.0 w.mem.time.0 (length (held w.mem)) k pos) (cut_all P k pos (steps P Commit w) w.files)
  unfolding is_whole commit_steps
  commit-turned k pos = rw (laws.commit-steps P w id inside) (go (order (length ps) k))
    where
      go : Order (length ps) k → By (record_whole id.0 w.mem.time.0 (length ps) k pos) (cut_all P k pos (images P w ps ++ (Log r ∷ rest)) w.files)
      go (most h) =
          rw (whole-not id.0 w.mem.time.0 (length ps) k pos h, all-front P pos (images P w ps) (Log r ∷ rest) k w.files (rw (images-count P w ps) h)) (to-images k pos)
      go (less h) =
          let j : ℕ = k - length ps - 1 in
          let e : k ≡ length ps + suc (k - length ps - 1) = omega arith in
          let b : cut_all P (length ps + suc (k - length ps - 1)) pos (images P w ps ++ (Log r ∷ rest)) w.files ≡ cut_all P (suc (k - length ps - 1)) pos (Log r ∷ rest) imaged1 =
          rw (images-count P w ps) at (all_back P pos (images P w ps) (Log r ∷ rest) (k - length ps - 1) w.files) in
          subst (λ (n : ℕ). By (record_whole id.0 w.mem.time.0 (length ps) n pos) (cut_all P n pos (images P w ps ++ (Log r ∷ rest)) w.files)) (sym e)
          (subst (λ (g : Files). By (record_whole id.0 w.mem.time.0 (length ps) (length ps + suc (k - length ps - 1)) pos) g) (sym b) (from-record (k - length ps - 1) pos))
