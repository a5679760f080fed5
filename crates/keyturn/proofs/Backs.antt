-- Rollback, cut anywhere. P is the page size. Assumes nothing.
use mathlib.Core.Path.{◌≡◌, refl, sym, ap, ◌∙◌}
use mathlib.Core.Logic.{◌⊎◌, inr}
use mathlib.Core.List.{List, [], ◌∷◌, ◌++◌, append_assoc, append-nil}
use mathlib.Core.Bool.{false}
use Prim.Native.Nat.{ℕ, ◌+◌, ◌*◌, ◌/◌, ◌^◌, ◌≤◌, ◌<◌, max}
use native.Mathlib.Omega.{arith}
use lib.ListN.{length}
use Rattle.fields.specs.declared.TransactionId.{TransactionId}
use Rattle.fields.specs.Files.{File, room}
use Rattle.fields.proofs.Tests.{Order, less, most, order}
use Rattle.fields.proofs.FileLaws.{lay-room, lay-len}
use Rattle.wal.specs.Records.{Record, abort, checkpoint, encode}
use Rattle.table.specs.declared.Status.TheVariants.{Aborted}
use Rattle.std.specs.Prelude.{Some}
use Rattle.table.specs.Entries.{insert_entry, status_of}
use Rattle.table.proofs.Facts.{or_known}
use Rattle.clog.specs.Slots.{code_of, set_slot}
use Rattle.meta.specs.Page.{meta_page}
use Rattle.frames.specs.Pages.{is_in, with_page}
use Rattle.frames.proofs.Lists.{in-none, Within}
use Rattle.world.specs.declared.Slot.TheVariants.{Installed}
use Rattle.world.specs.World.{Files, World}
use Rattle.world.specs.Steps.{Step, Log, Page, SetSlot, Truncate, apply, apply_all, sum_of, log_bytes, most_of, db_end}
use Rattle.world.specs.Calls.{Rollback, held, data_pages, images, writes, meta_step, rolled_back, data_steps, back_steps, rollback_steps, steps}
use Rattle.world.specs.Refusals.{call_no}
use Rattle.world.proofs.RoomLaws.{images-db-same, images-clog-same, images-log-len, rollback-log-none, rollback-log, all-room-log}
use Rattle.world.proofs.FormLaws.{InForm}
use Rattle.world.proofs.FrameLaws.{keep-good, keep_out}
use Rattle.world.proofs.CallLaws as laws
use Rattle.opening.specs.Opening.{records}
use Rattle.opening.proofs.Tables.{last_word, word-append}
use Rattle.opening.proofs.Replays.{imaged_all}
use Rattle.opening.proofs.Pages.{images_of, images-words}
use Rattle.partway.specs.Partway.{apply_to, cut_all}
use Rattle.partway.proofs.Laws.{cut-cons, cut-last, cut-join}
use Rattle.keyoff.specs.KeyOff.{kept}
use Rattle.keyoff.proofs.Steps.{entry, abort-sign}
use Rattle.keyoff.proofs.Invariant.{Kept}
use Rattle.keyturn.proofs.Asked.{Asked, written}
use Rattle.keyturn.proofs.Logs.{LogIs, LogWhole, whole_is, log-part, log-done, log-whole}
use Rattle.keyturn.proofs.Clogs.{loads, SlotCut, not_yet, whole, slot-to}
use Rattle.keyturn.proofs.Dbs.{byte_of}
use Rattle.keyturn.proofs.Mid as mid
use Rattle.keyturn.proofs.Parts.{AllFine, Logging, cut-images, whole-images, Writing, cut-writes, whole-writes, writes_bytes}
use Rattle.keyturn.proofs.Build.{Reached}
use Rattle.keyturn.proofs.Adds.{Adds, adds_none, adds-append, adds-images, adds-word, word-said, own-id, DbKept, ClogKept, clog-is, log_is, db-same, clog-stays, clog-same, clog-set, half-pages}
use Rattle.keyturn.proofs.Walk.{stays, meta-db, meta-byte, meta-log, meta-clog, late-added}
use Rattle.keyturn.proofs.Long.{fine-pages, logged-state, tail_turned}

-- the stores of the data pages, and one more behind them
data-list : (P : ℕ) (w : World) (ps : List ℕ) (m : Step) → 0 < length ps →
    data_steps P w ps ++ (m ∷ []) ≡ images P w ps ++ (writes P w ps ++ (Log checkpoint ∷ Truncate ∷ m ∷ []))
unfolding data_steps
data-list P w [] m h = absurd (omega arith)
data-list P w (p ∷ ps) m h =
    append_assoc (images P w (p ∷ ps)) (writes P w (p ∷ ps) ++ (Log checkpoint ∷ Truncate ∷ [])) (m ∷ [])
    ∙ ap (λ (l : List Step). images P w (p ∷ ps) ++ l) (append_assoc (writes P w (p ∷ ps)) (Log checkpoint ∷ Truncate ∷ []) (m ∷ []))

data-none : (P : ℕ) (w : World) → data_steps P w [] ≡ []
unfolding data_steps
data-none P w = refl

module _ (P : ℕ) (big : 36 ≤ P) (w : World) (v : Kept P w) (form : InForm P w) (list : List ℕ) (id : TransactionId) (inside : w.mem.slot ≡ Installed id)
    (q : Asked P (Rollback list) w) (ok : call_no P (Rollback list) w ≡ 0) where
  abbrev old : List Record
  old = records P w.files.log

  abbrev ps : List ℕ
  ps = data_pages list w.mem

  abbrev r : Record
  r = abort id.0

  abbrev Goal : Files → Type 0
  Goal g = Reached P false (Rollback list) w g

  pages-are : written (Rollback list) w ≡ ps
  unfolding written
  pages-are = rw inside

  fits : laws.Fits P w 0 (sum_of log_bytes (rollback_steps P list w (Installed id))) (max P (most_of (db_end P) (writes P w (data_pages list w.mem)))) (8 + id.0 / 4 + 1) (length (insert_entry (record { id = id; status = Aborted }) w.mem.table)) (length (with_page 0 w.mem.resident))
  fits = laws.rollback-fits P list w id inside big ok

  fit : 8 + id.0 / 4 < room w.files.clog
  fit = omega (arith, fits.clog-fits)

  fine : AllFine P (room w.files.db) ps
  unfolding held data_pages
  fine =
      fine-pages P (room w.files.db) w ps (keep-good _ (held w.mem) (keep-good _ w.mem.touched form.touched-good))
      (keep_out _ 0 (held w.mem) (keep_out _ 0 w.mem.touched (q.zero id inside))) (omega (arith, fits.db-fits))

  fine-written : AllFine P (room w.files.db) (written (Rollback list) w)
  fine-written = rw pages-are fine

  small : id.0 < 2 ^ 64
  small = omega (arith, fit, v.clog-size)

  record-size : length (encode r) ≡ 9
  record-size = (abort-sign id.0).size

  log-room : w.files.log.len + 9 ≤ room w.files.log
  log-room = go ps refl
    where
      go : (l : List ℕ) → data_pages list w.mem ≡ l → w.files.log.len + 9 ≤ room w.files.log
      go [] e = omega (arith, fits.log-fits, rollback-log-none P list w id e)
      go (p ∷ l) e = let h : 0 < length (data_pages list w.mem) = rw e (omega arith) in omega (arith, fits.log-fits, rollback-log P list w id h)

  record-room : w.files.log.len + length (encode r) ≤ room w.files.log
  record-room = omega (arith, log-room, record-size)

  said : (Some Aborted ≡ kept (status_of id.0 w.mem.table)) ⊎ (Some Aborted ≡ Some Aborted)
  said = inr refl

  record-plain : (i b : ℕ) → imaged_all P (r ∷ []) i b ≡ b
  unfolding imaged_all
  record-plain i b = refl

  none-plain : (i b : ℕ) → imaged_all P [] i b ≡ b
  unfolding imaged_all
  none-plain i b = refl

  adds-record : Adds P (Installed id) (room w.files.db) (room w.files.clog) (r ∷ [])
  adds-record = adds-word P (Installed id) _ _ r (entry id.0 Aborted) refl tt fit (own-id id)

  record-word : last_word id.0 (r ∷ []) ≡ Some Aborted
  record-word = word-said r (entry id.0 Aborted) refl

  -- nothing behind it says more
  end-word : or_known (last_word id.0 []) (last_word id.0 (r ∷ [])) ≡ Some Aborted
  end-word = word-none' ∙ record-word
    where
      word-none' : or_known (last_word id.0 []) (last_word id.0 (r ∷ [])) ≡ last_word id.0 (r ∷ [])
      word-none' = unfold last_word in refl

  -- the record and some images in the log, the database as it was
  signed : (qs : List ℕ) (g : Files) → Within qs ps → LogIs P g.log (old ++ ((r ∷ []) ++ images_of P w qs)) → g.db ≡ w.files.db →
      ClogKept w (Installed id) w.mem.mark.0 g → Goal g
  signed qs g inside' l d k =
      late-added P big w v (Rollback list) false id Aborted inside fit fits.entries_fit said said ((r ∷ []) ++ images_of P w qs) g l
      (adds-append P (Installed id) _ _ (r ∷ []) (images_of P w qs) adds-record (adds-images P (Installed id) _ _ w qs (λ x h. fine x (inside' x h))))
      (word-append id.0 (r ∷ []) (images_of P w qs) ∙ rw (images-words P w id.0 qs) record-word) (db-same P w v _ g d) k
      (rw pages-are (half-pages P w v (r ∷ []) qs ps g record-plain inside' d))

  -- ---- the record

  abbrev logged1 : Files
  logged1 = apply P (Log r) w.files

  log1 : LogWhole P logged1.log (old ++ (r ∷ []))
  log1 = log-whole P w.files old r (log_is P w v) small record-room

  db1 : logged1.db ≡ w.files.db
  unfolding apply
  db1 = refl

  clog1 : logged1.clog ≡ w.files.clog
  unfolding apply
  clog1 = refl

  signed-only : (g : Files) → g.log ≡ logged1.log → g.db ≡ w.files.db → ClogKept w (Installed id) w.mem.mark.0 g → Goal g
  unfolding images_of
  signed-only g l d k = signed [] g (λ x h. in-none x h) (rw l (whole_is P logged1.log (old ++ (r ∷ [])) log1)) d k

  to-record : (pos : ℕ) → Goal (apply_to P pos (Log r) w.files)
  to-record pos = go (order pos (length (encode r)))
    where
      go : Order pos (length (encode r)) → Goal (apply_to P pos (Log r) w.files)
      go (less h) = stays P big w v (Rollback list) q _ (log-part P w.files old r (log_is P w v) small record-room pos h)
      go (most h) = rw (log-done P w.files old r pos h) (signed-only logged1 refl db1 (clog-same P w v logged1 (Installed id) w.mem.mark.0 clog1))

  -- ---- the slot

  abbrev marked2 : Files
  marked2 = apply P (SetSlot id.0 Aborted) logged1

  log2 : marked2.log ≡ logged1.log
  unfolding apply
  log2 = refl

  db2 : marked2.db ≡ w.files.db
  unfolding apply
  db2 = refl

  clog2 : marked2.clog ≡ set_slot 8 id.0 (code_of Aborted) w.files.clog
  unfolding apply
  clog2 = refl

  to-slot : (pos : ℕ) → Goal (apply_to P pos (SetSlot id.0 Aborted) logged1)
  to-slot pos = go (slot-to P id.0 Aborted logged1 (rw clog1 (clog-is P w v)) (rw clog1 fit) pos)
    where
      go : SlotCut P id.0 Aborted logged1 (apply_to P pos (SetSlot id.0 Aborted) logged1) → Goal (apply_to P pos (SetSlot id.0 Aborted) logged1)
      go (not_yet t) =
          signed-only _ t.log (t.db ∙ db1)
          (clog-stays P w v _ (Installed id) w.mem.mark.0 (t.size ∙ ap room clog1) t.is (λ x. t.slots x ∙ ap (λ (f : File). loads f x) clog1))
      go (whole e) = rw e (signed-only marked2 log2 db2 (clog-set P w v marked2 id Aborted w.mem.mark.0 clog2 fit))

  abbrev meta : Step
  meta = meta_step P (rolled_back id w.mem)

  all-steps : (ts : List Step) → data_steps P w ps ++ (meta ∷ []) ≡ ts → steps P (Rollback list) w ≡ Log r ∷ SetSlot id.0 Aborted ∷ ts
  unfolding rollback_steps back_steps
  all-steps ts e = laws.rollback-steps P list w id inside ∙ ap (λ (l : List Step). Log r ∷ SetSlot id.0 Aborted ∷ l) e

  -- the state with all images behind the record
  images-state : (g : Files) → LogIs P g.log (old ++ ((r ∷ []) ++ (images_of P w (written (Rollback list) w) ++ []))) → DbKept P w w.mem.mark.0 g →
      ClogKept w (Installed id) w.mem.mark.0 g →
      ((p i : ℕ) → 0 < p → is_in p (written (Rollback list) w) ≡ false → i < P → byte_of g.db (p * P + i) ≡ byte_of w.files.db (p * P + i)) → Goal g
  images-state g l d k out =
      logged-state P big w v (Rollback list) false id Aborted inside fit fits.entries_fit said said fine-written 0 0 (r ∷ []) [] record-plain none-plain
      adds-record (adds_none P (Installed id) _ _) end-word g l d k out

  -- ---- with no data page: meta at once

  module _ (none : data_pages list w.mem ≡ []) where
    alone : (r ∷ []) ++ (images_of P w (written (Rollback list) w) ++ []) ≡ r ∷ []
    unfolding images_of
    alone = rw (pages-are, none)

    to-meta : (next time pos : ℕ) → Goal (apply_to P pos (Page 0 (meta_page P next time w.mem.mark.0)) marked2)
    to-meta next time pos =
        let d = db-same P w v _ marked2 db2 in
        let g = apply_to P pos (Page 0 (meta_page P next time w.mem.mark.0)) marked2 in
        let l = meta-log P big w v marked2 next time w.mem.mark.0 v.small w.mem.mark.0 (mid.old refl) d pos in
        images-state g (rw (alone, l, log2) (whole_is P logged1.log (old ++ (r ∷ [])) log1)) (meta-db P big w v marked2 next time w.mem.mark.0 v.small w.mem.mark.0 (mid.old refl) d pos)
        (clog-set P w v g id Aborted w.mem.mark.0 (meta-clog P big w v marked2 next time w.mem.mark.0 v.small w.mem.mark.0 (mid.old refl) d pos ∙ clog2) fit)
        (λ p i h n u. meta-byte P big w v marked2 next time w.mem.mark.0 v.small w.mem.mark.0 (mid.old refl) d pos p i h ∙ ap (λ (f : File). byte_of f (p * P + i)) db2)

    none-turned : (k pos : ℕ) → Goal (cut_all P k pos (steps P (Rollback list) w) w.files)
    unfolding rolled_back
    none-turned k pos =
        rw (all-steps (meta ∷ []) (rw (none, data-none P w)))
        (cut-cons P Goal (Log r) (SetSlot id.0 Aborted ∷ meta ∷ []) w.files to-record
        (cut-cons P Goal (SetSlot id.0 Aborted) (meta ∷ []) logged1 to-slot (cut-last P Goal meta marked2 (to-meta _ _))) k pos)

  -- ---- with data pages

  module _ (some : 0 < length (data_pages list w.mem)) where
    abbrev base : List Record
    base = old ++ (r ∷ [])

    start : LogWhole P marked2.log (base ++ images_of P w [])
    unfolding images_of
    start = rw (append-nil, log2) log1

    len2 : marked2.log.len ≡ w.files.log.len + 9
    unfolding apply
    len2 = lay-len w.files.log w.files.log.len (encode r) ∙ rw record-size (omega arith)

    size2 : room marked2.log ≡ room w.files.log
    unfolding apply
    size2 = lay-room w.files.log w.files.log.len (encode r)

    all_room : marked2.log.len + (length ps * (5 + P) + 1) ≤ room marked2.log
    all_room = omega (arith, fits.log-fits, rollback-log P list w id some, len2, size2)

    space : marked2.log.len + length ps * (5 + P) ≤ room marked2.log
    space = omega (arith, all_room)

    to-images : (k pos : ℕ) → Goal (cut_all P k pos (images P w ps) marked2)
    to-images k pos =
        let g = cut_all P k pos (images P w ps) marked2 in
        let l : Logging P w base ps marked2 (cut_all P k pos (images P w ps) marked2) =
        cut-images P w base (room w.files.db) ps fine ps [] marked2 (λ x h. in-none x h) (λ x h. h) start space k pos in
        signed l.pages g l.within (rw (append_assoc old (r ∷ []) (images_of P w l.pages)) at l.log) (l.db ∙ db2)
        (clog-set P w v g id Aborted w.mem.mark.0 (l.clog ∙ clog2) fit)

    abbrev imaged3 : Files
    imaged3 = apply_all P (images P w ps) marked2

    db3 : imaged3.db ≡ w.files.db
    db3 = images-db-same P w ps marked2 ∙ db2

    clog3 : imaged3.clog ≡ set_slot 8 id.0 (code_of Aborted) w.files.clog
    clog3 = images-clog-same P w ps marked2 ∙ clog2

    behind : old ++ ((r ∷ []) ++ (images_of P w (written (Rollback list) w) ++ [])) ≡ base ++ images_of P w ps
    behind = rw (pages-are, append-nil (images_of P w ps)) (sym (append_assoc old (r ∷ []) (images_of P w ps)))

    log3 : LogWhole P imaged3.log (old ++ ((r ∷ []) ++ (images_of P w (written (Rollback list) w) ++ [])))
    log3 = rw behind (whole-images P w base (room w.files.db) ps fine ps [] marked2 (λ x h. in-none x h) (λ x h. h) start space)

    room3 : imaged3.log.len + 1 ≤ room imaged3.log
    room3 = omega (arith, images-log-len P w ps marked2, all-room-log P (images P w ps) marked2, all_room)

    writing-db : (g : Files) → Writing P ps imaged3 g → DbKept P w w.mem.mark.0 g
    writing-db g t = record { size = t.size ∙ ap room db3; fits = t.fits; mark = w.mem.mark.0; stands = t.stands w.mem.mark.0 (rw db3 v.page); among = mid.old refl }

    to-writes : (k pos : ℕ) → Goal (cut_all P k pos (writes P w ps) imaged3)
    to-writes k pos =
        let g = cut_all P k pos (writes P w ps) imaged3 in
        let t : Writing P ps imaged3 (cut_all P k pos (writes P w ps) imaged3) =
        cut-writes P big w (room w.files.db) ps fine ps imaged3 (λ x h. h) (rw db3 v.db-len) (ap room db3) k pos in
        images-state g (rw t.log (whole_is P imaged3.log _ log3)) (writing-db g t)
        (clog-set P w v g id Aborted w.mem.mark.0 (t.clog ∙ clog3) fit)
        (λ p i h n u. t.out p i (rw pages-are at n) u ∙ ap (λ (f : File). byte_of f (p * P + i)) db3)

    abbrev written4 : Files
    written4 = apply_all P (writes P w ps) imaged3

    writing4 : Writing P ps imaged3 written4
    writing4 = whole-writes P big w (room w.files.db) ps fine ps imaged3 (λ x h. h) (rw db3 v.db-len) (ap room db3)

    bytes4 : (p i : ℕ) → 0 < p → i < P →
        byte_of written4.db (p * P + i) ≡ imaged_all P (images_of P w (written (Rollback list) w)) (p * P + i) (byte_of w.files.db (p * P + i))
    bytes4 p i h u =
        rw pages-are
        (writes_bytes P w ps imaged3 (rw db3 fine) (rw db3 v.db-len) (p * P + i) ∙ ap (λ (f : File). imaged_all P (images_of P w ps) (p * P + i) (byte_of f (p * P + i))) db3)

    to-tail : (next time k pos : ℕ) → Goal (cut_all P k pos (Log checkpoint ∷ Truncate ∷ Page 0 (meta_page P next time w.mem.mark.0) ∷ []) written4)
    to-tail next time =
        tail_turned P big w v (Rollback list) false id Aborted inside fit fits.entries_fit said said fine-written next time (r ∷ []) [] record-plain none-plain
        adds-record (adds_none P (Installed id) _ _) end-word written4 (rw writing4.log log3) (rw writing4.log room3) (writing-db written4 writing4) (writing4.clog ∙ clog3) bytes4

    some-turned : (k pos : ℕ) → Goal (cut_all P k pos (steps P (Rollback list) w) w.files)
    unfolding rolled_back
    some-turned k pos =
        rw (all-steps (images P w ps ++ (writes P w ps ++ (Log checkpoint ∷ Truncate ∷ meta ∷ []))) (data-list P w ps meta some))
        (cut-cons P Goal (Log r) (SetSlot id.0 Aborted ∷ (images P w ps ++ (writes P w ps ++ (Log checkpoint ∷ Truncate ∷ meta ∷ [])))) w.files to-record
        (cut-cons P Goal (SetSlot id.0 Aborted) (images P w ps ++ (writes P w ps ++ (Log checkpoint ∷ Truncate ∷ meta ∷ []))) logged1 to-slot
        (cut-join P Goal (images P w ps) (writes P w ps ++ (Log checkpoint ∷ Truncate ∷ meta ∷ [])) marked2 to-images
        (cut-join P Goal (writes P w ps) (Log checkpoint ∷ Truncate ∷ meta ∷ []) imaged3 to-writes (to-tail _ _)))) k pos)

  pub rollback-turned : (k pos : ℕ) → Goal (cut_all P k pos (steps P (Rollback list) w) w.files)
  rollback-turned k pos = go (data_pages list w.mem) refl
    where
      go : (l : List ℕ) → data_pages list w.mem ≡ l → Goal (cut_all P k pos (steps P (Rollback list) w) w.files)
      go [] e = none-turned e k pos
      go (p ∷ l) e = some-turned (rw e (omega arith)) k pos
