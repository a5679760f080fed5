-- Begin, flush and advance, cut anywhere. P is the page size. Assumes nothing.
use mathlib.Core.Path.{◌≡◌, refl, sym, ap, ◌∙◌, subst}
use mathlib.Core.Logic.{inr}
use mathlib.Core.List.{List, [], ◌∷◌, ◌++◌, append-nil}
use mathlib.Core.Bool.{true, false}
use Prim.Native.Nat.{ℕ, ◌+◌, ◌*◌, ◌/◌, ◌^◌, ◌≤◌, ◌<◌}
use native.Mathlib.Omega.{arith}
use lib.Dec.{lit<}
use lib.ListN.{length}
use borrow.Author.Tests.{leb-false}
use Rattle.fields.specs.declared.TransactionId.{TransactionId}
use Rattle.fields.specs.Files.{File, room}
use Rattle.fields.proofs.Tests.{Order, less, most, order, passed}
use Rattle.wal.specs.Records.{Record, begin, encode}
use Rattle.table.specs.declared.Status.TheVariants.{Active}
use Rattle.frames.specs.Pages.{is_in, bad_page}
use Rattle.frames.proofs.Lists.{InCons, first, later, in-cons, in-none}
use Rattle.world.specs.declared.Slot.TheVariants.{Installed, Empty}
use Rattle.world.specs.World.{Files, World}
use Rattle.world.specs.Steps.{Log, Page, SetSlot, Compact, apply, apply_all}
use Rattle.world.specs.Calls.{Begin, Flush, Advance, images, writes, meta_step, advanced, steps}
use Rattle.world.specs.Refusals.{argument_no, call_no}
use Rattle.meta.specs.Page.{meta_page}
use Rattle.world.proofs.RoomLaws.{images-db-same, images-clog-same}
use Rattle.world.proofs.CallLaws as laws
use Rattle.world.proofs.CallLaws.{call-good}
use Rattle.opening.specs.Opening.{records}
use Rattle.opening.proofs.Replays.{imaged_all}
use Rattle.opening.proofs.Pages.{images_of}
use Rattle.partway.specs.Partway.{apply_to, cut_all}
use Rattle.partway.proofs.Laws.{cut-cons, cut-last, cut-join}
use Rattle.keyoff.proofs.Steps.{entry, begin-sign}
use Rattle.keyoff.proofs.Invariant.{Kept}
use Rattle.keyturn.proofs.Asked.{Asked, written, mark_of}
use Rattle.keyturn.proofs.Logs.{LogIs, LogWhole, whole_is, log-part, log-done, log-whole}
use Rattle.keyturn.proofs.Clogs.{loads, SlotCut, not_yet, whole, slot-to, Compacting, compact-to, compact-whole}
use Rattle.keyturn.proofs.Dbs.{byte_of}
use Rattle.keyturn.proofs.Mid as mid
use Rattle.keyturn.proofs.Mid.{MarkIs}
use Rattle.keyturn.proofs.Parts.{Fine, AllFine, Logging, cut-images, whole-images, Writing, cut-writes}
use Rattle.keyturn.proofs.Build.{Reached, full-half, left}
use Rattle.keyturn.proofs.Adds.{adds_none, adds-images, adds-word, word-said, own-id, DbKept, ClogKept, clog-is, log_is, db-same, clog-stays, clog-same, clog-set, half-pages, full-pages}
use Rattle.keyturn.proofs.Walk.{early, stays, meta-db, meta-byte, meta-log, meta-clog, with-images}

module _ (P : ℕ) (big : 36 ≤ P) (w : World) (v : Kept P w) where
  abbrev old : List Record
  old = records P w.files.log

  -- ---- begin

  module _ (id : TransactionId) (q : Asked P (Begin id) w) (ok : call_no P (Begin id) w ≡ 0) where
    abbrev BeginGoal : Files → Type 0
    BeginGoal g = Reached P false (Begin id) w g

    abbrev r : Record
    r = begin id.0

    fit : 8 + id.0 / 4 < room w.files.clog
    fit = omega (arith, (laws.begin-fits P id w ok).clog-fits)

    log-room : w.files.log.len + length (encode r) ≤ room w.files.log
    log-room = omega (arith, (laws.begin-fits P id w ok).log-fits, (begin-sign id.0).size)

    small : id.0 < 2 ^ 64
    small = omega (arith, fit, v.clog-size)

    -- the record is in the log
    begun : (g : Files) → LogIs P g.log (old ++ (r ∷ [])) → g.db ≡ w.files.db → ClogKept w (Installed id) w.mem.mark.0 g → BeginGoal g
    unfolding written images_of
    begun g l d k =
        with-images P big w v (Begin id) false id Active refl fit (laws.begin-fits P id w ok).entries_fit (inr refl) (inr refl) (λ p h. in-none p h) 0 0
        (r ∷ []) [] (λ i b. unfold imaged_all in refl) (λ i b. unfold imaged_all in refl) g l
        (adds-word P (Installed id) _ _ r (entry id.0 Active) refl tt fit (own-id id)) (word-said r (entry id.0 Active) refl)
        (db-same P w v _ g d) k (λ p i h n u. ap (λ (f : File). byte_of f (p * P + i)) d)

    logged : LogIs P (apply P (Log r) w.files).log (old ++ (r ∷ []))
    logged = whole_is P _ (old ++ (r ∷ [])) (log-whole P w.files old r (log_is P w v) ((begin-sign id.0).sound P small) log-room)

    begin-log : (pos : ℕ) → BeginGoal (apply_to P pos (Log r) w.files)
    begin-log pos = go (order pos (length (encode r)))
      where
        go : Order pos (length (encode r)) → BeginGoal (apply_to P pos (Log r) w.files)
        go (less h) = stays P big w v (Begin id) q _ (log-part P w.files old r (log_is P w v) ((begin-sign id.0).sound P small) log-room pos h)
        go (most h) =
            rw (log-done P w.files old r pos h)
            (begun (apply P (Log r) w.files) logged (unfold apply in refl) (clog-same P w v (apply P (Log r) w.files) (Installed id) w.mem.mark.0 (unfold apply in refl)))

    begin-slot : (pos : ℕ) → BeginGoal (apply_to P pos (SetSlot id.0 Active) (apply P (Log r) w.files))
    begin-slot pos = go (slot-to P id.0 Active f (rw e (clog-is P w v)) (rw e fit) pos)
      where
        f : Files
        f = apply P (Log r) w.files

        e : f.clog ≡ w.files.clog
        e = unfold apply in refl

        go : SlotCut P id.0 Active f (apply_to P pos (SetSlot id.0 Active) f) → BeginGoal (apply_to P pos (SetSlot id.0 Active) f)
        go (not_yet s) =
            begun (apply_to P pos (SetSlot id.0 Active) f) (rw s.log logged) (s.db ∙ (unfold apply in refl))
            (clog-stays P w v _ (Installed id) w.mem.mark.0 (s.size ∙ ap room e) s.is (λ t. s.slots t ∙ ap (λ (x : File). loads x t) e))
        go (whole s) =
            rw s (begun (apply P (SetSlot id.0 Active) f) (unfold apply in logged) (unfold apply in refl)
            (clog-set P w v (apply P (SetSlot id.0 Active) f) id Active w.mem.mark.0 (unfold apply in refl) fit))

    pub begin-turned : (k pos : ℕ) → BeginGoal (cut_all P k pos (steps P (Begin id) w) w.files)
    unfolding steps
    begin-turned = cut-cons P BeginGoal (Log r) (SetSlot id.0 Active ∷ []) w.files begin-log (cut-last P BeginGoal (SetSlot id.0 Active) (apply P (Log r) w.files) begin-slot)

  -- ---- flush of a resident page outside a transaction

  module _ (p : ℕ) (q : Asked P (Flush p) w) (ok : call_no P (Flush p) w ≡ 0) (out : w.mem.slot ≡ Empty) (there : is_in p w.mem.resident ≡ true) (p0 : 0 < p) where
    abbrev FlushGoal : Files → Type 0
    FlushGoal g = Reached P false (Flush p) w g

    abbrev tot : List ℕ
    tot = p ∷ []

    flush-pages : written (Flush p) w ≡ tot
    unfolding written
    flush-pages = rw (out, there)

    page-good : p < 4294967295
    page-good = unfold argument_no in leb-false 4294967295 p (passed (bad_page p) 10 0 (lit< tt) (call-good P (Flush p) w ok)).0

    fine : AllFine P (room w.files.db) tot
    fine x h = go (in-cons x p [] h)
      where
        own : Fine P (room w.files.db) p
        own = (p0, page-good, omega (arith, (laws.flush-fits-out P p w out there ok).db-fits))

        go : InCons x p [] → Fine P (room w.files.db) x
        go (first e) = subst (λ (y : ℕ). Fine P (room w.files.db) y) e own
        go (later e) = in-none x e

    start : LogWhole P w.files.log (old ++ images_of P w [])
    unfolding images_of
    start = rw append-nil (log_is P w v)

    space : w.files.log.len + length tot * (5 + P) ≤ room w.files.log
    space = omega (arith, (laws.flush-fits-out P p w out there ok).log-fits)

    flush-log : (k pos : ℕ) → FlushGoal (cut_all P k pos (images P w tot) w.files)
    flush-log k pos =
        let l : Logging P w old tot w.files (cut_all P k pos (images P w tot) w.files) =
        cut-images P w old (room w.files.db) tot fine tot [] w.files (λ x h. in-none x h) (λ x h. h) start space k pos in
        early P big w v (Flush p) q (images_of P w l.pages) (cut_all P k pos (images P w tot) w.files) l.log
        (adds-images P Empty _ _ w l.pages (λ x h. fine x (l.within x h))) (db-same P w v _ _ l.db) (clog-same P w v _ Empty w.mem.mark.0 l.clog)
        (rw flush-pages (half-pages P w v [] l.pages tot (cut_all P k pos (images P w tot) w.files) (λ i b. unfold imaged_all in refl) l.within l.db))

    abbrev logged1 : Files
    logged1 = apply_all P (images P w tot) w.files

    flush-page : (k pos : ℕ) → FlushGoal (cut_all P k pos (writes P w tot) logged1)
    flush-page k pos =
        let d : logged1.db ≡ w.files.db = images-db-same P w tot w.files in
        let c : logged1.clog ≡ w.files.clog = images-clog-same P w tot w.files in
        let g = cut_all P k pos (writes P w tot) logged1 in
        let l : LogWhole P logged1.log (old ++ images_of P w tot) = whole-images P w old (room w.files.db) tot fine tot [] w.files (λ x h. in-none x h) (λ x h. h) start space in
        let t : Writing P tot logged1 (cut_all P k pos (writes P w tot) logged1) =
        cut-writes P big w (room w.files.db) tot fine tot logged1 (λ x h. h) (rw d v.db-len) (ap room d) k pos in
        let e : LogIs P g.log (old ++ images_of P w tot) = rw t.log (whole_is P logged1.log (old ++ images_of P w tot) l) in
        early P big w v (Flush p) q (images_of P w tot ++ []) g (rw (append-nil (images_of P w tot)) e)
        (rw (append-nil (images_of P w tot)) (adds-images P Empty _ _ w tot fine))
        (record { size = t.size ∙ ap room d; fits = t.fits; mark = w.mem.mark.0; stands = t.stands w.mem.mark.0 (rw d v.page); among = mid.old refl })
        (clog-same P w v g Empty w.mem.mark.0 (t.clog ∙ c))
        (rw flush-pages (full-half P w tot (left P (old ++ (images_of P w tot ++ [])) g) (full-pages P w v [] [] tot g (λ i b. unfold imaged_all in refl) (λ i b. unfold imaged_all in refl)
        (λ x i h n u. t.out x i n u ∙ ap (λ (f : File). byte_of f (x * P + i)) d))))

    flush-steps : steps P (Flush p) w ≡ images P w tot ++ writes P w tot
    unfolding images writes
    flush-steps = laws.flush-steps-out P p w out there

    pub flush-turned : (k pos : ℕ) → FlushGoal (cut_all P k pos (steps P (Flush p) w) w.files)
    flush-turned k pos = rw flush-steps (cut-join P FlushGoal (images P w tot) (writes P w tot) w.files flush-log flush-page k pos)

  -- ---- the mark advanced

  module _ (u : TransactionId) (q : Asked P (Advance u) w) (ok : call_no P (Advance u) w ≡ 0) (higher : w.mem.mark.0 < u.0) where
    abbrev AdvanceGoal : Files → Type 0
    AdvanceGoal g = Reached P false (Advance u) w g

    advance-state : (g : Files) → g.log ≡ w.files.log → DbKept P w (mark_of (Advance u) w) g → ((p i : ℕ) → 0 < p → byte_of g.db (p * P + i) ≡ byte_of w.files.db (p * P + i)) →
        Compacting u.0 w.files (record { log = w.files.log; db = w.files.db; clog = g.clog }) → AdvanceGoal g
    unfolding written images_of
    advance-state g l d b c =
        early P big w v (Advance u) q [] g (rw (append-nil, l) (whole_is P w.files.log old (log_is P w v))) (adds_none P Empty _ _) d
        (record { size = c.size; is = c.is; high = λ t n h. c.high t (omega arith); slots = λ t n. c.slots t })
        (full-half P w [] (left P (old ++ []) g) (full-pages P w v [] [] [] g (λ i b. unfold imaged_all in refl) (λ i b. unfold imaged_all in refl) (λ p i h n k. b p i h)))

    only-clog : (g : Files) → Compacting u.0 w.files g → Compacting u.0 w.files (record { log = w.files.log; db = w.files.db; clog = g.clog })
    only-clog g c = record { log = refl; db = refl; is = c.is; size = c.size; high = c.high; slots = c.slots }

    advance-clog : (pos : ℕ) → AdvanceGoal (apply_to P pos (Compact u.0) w.files)
    advance-clog pos =
        let c = compact-to P u.0 w.files (clog-is P w v) pos in
        let g = apply_to P pos (Compact u.0) w.files in
        advance-state g c.log (db-same P w v _ g c.db) (λ p i h. ap (λ (f : File). byte_of f (p * P + i)) c.db) (only-clog g c)

    abbrev compacted : Files
    compacted = apply P (Compact u.0) w.files

    advance-meta : (next time pos : ℕ) → AdvanceGoal (apply_to P pos (Page 0 (meta_page P next time u.0)) compacted)
    advance-meta next time pos =
        let c = compact-whole P u.0 w.files (clog-is P w v) in
        let d : DbKept P w (mark_of (Advance u) w) compacted = db-same P w v (mark_of (Advance u) w) compacted c.db in
        let s = q.typed u refl in
        let top : MarkIs w (mark_of (Advance u) w) u.0 = mid.raised (omega arith) in
        let g = apply_to P pos (Page 0 (meta_page P next time u.0)) compacted in
        let k = meta-clog P big w v compacted next time u.0 s (mark_of (Advance u) w) top d pos in
        advance-state g (meta-log P big w v compacted next time u.0 s (mark_of (Advance u) w) top d pos ∙ c.log) (meta-db P big w v compacted next time u.0 s (mark_of (Advance u) w) top d pos)
        (λ p i h. meta-byte P big w v compacted next time u.0 s (mark_of (Advance u) w) top d pos p i h ∙ ap (λ (f : File). byte_of f (p * P + i)) c.db)
        (subst (λ (x : File). Compacting u.0 w.files (record { log = w.files.log; db = w.files.db; clog = x })) (sym k) (only-clog compacted c))

    pub advance-turned : (k pos : ℕ) → AdvanceGoal (cut_all P k pos (steps P (Advance u) w) w.files)
    unfolding advanced
    advance-turned k pos =
        rw (laws.advance-steps P u w higher)
        (cut-cons P AdvanceGoal (Compact u.0) (meta_step P (advanced u w.mem) ∷ []) w.files advance-clog
        (cut-last P AdvanceGoal (meta_step P (advanced u w.mem)) compacted (advance-meta _ _)) k pos)
