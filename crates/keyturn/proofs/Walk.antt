-- A call's stores walked through, cut anywhere: before the call's own word is in the log, after it, and the end that commit and rollback have in common.
-- P is the page size. Assumes nothing.
use mathlib.Core.Path.{◌≡◌, refl, sym, ap, ◌∙◌, subst}
use mathlib.Core.Logic.{inl}
use mathlib.Core.List.{List, [], ◌++◌, append-nil}
use mathlib.Core.Bool.{Bool, true, false}
use Prim.Native.Nat.{ℕ, zero, suc, ◌+◌, ◌*◌, ◌/◌, ◌^◌, ◌≤◌, ◌<◌}
use native.Mathlib.Nat.{zero-mul}
use native.Mathlib.Omega.{arith}
use lib.ListN.{length}
use Rattle.fields.specs.declared.TransactionId.{TransactionId}
use Rattle.fields.specs.Files.{File, room}
use Rattle.wal.specs.Records.{Record}
use Rattle.table.specs.declared.Status.{Status}
use Rattle.table.specs.declared.Status.TheVariants.{Active}
use Rattle.std.specs.Prelude.{Option, Some}
use Rattle.table.specs.Entries.{insert_entry, status_of}
use Rattle.table.proofs.Facts.{settled_known}
use Rattle.clog.specs.Slots.{code_of, set_slot}
use Rattle.meta.specs.Page.{meta_page}
use Rattle.meta.proofs.Laws.{length-meta}
use Rattle.frames.specs.Pages.{is_in}
use Rattle.frames.proofs.Lists.{in-none}
use Rattle.world.specs.declared.Slot.{Slot}
use Rattle.world.specs.declared.Slot.TheVariants.{Installed, Empty}
use Rattle.world.specs.World.{Files, World}
use Rattle.world.specs.Steps.{Step, Page}
use Rattle.world.specs.Calls.{Call, Install, Uninstall, AllocId, AllocPage, Begin, Read, Write, Flush, Commit, Rollback, Advance}
use Rattle.opening.specs.Opening.{records}
use Rattle.opening.proofs.Tables.{last_word}
use Rattle.opening.proofs.Replays.{imaged_all}
use Rattle.opening.proofs.Pages.{images_of}
use Rattle.partway.specs.Partway.{apply_to}
use Rattle.partway.proofs.Laws.{to_none}
use Rattle.keyoff.specs.KeyOff.{kept}
use Rattle.keyoff.proofs.Images.{page-high}
use Rattle.keyoff.proofs.Page.{stands-whole}
use Rattle.keyoff.proofs.Invariant.{Kept}
use Rattle.keyturn.specs.KeyTurn.{own_id}
use Rattle.keyturn.proofs.Asked.{Asked, written, mark_of}
use Rattle.keyturn.proofs.Logs.{LogIs, whole_is, Stays}
use Rattle.keyturn.proofs.Dbs.{byte_of, PageTo, page-to, meta-part}
use Rattle.keyturn.proofs.Mid as mid
use Rattle.keyturn.proofs.Mid.{NotOwn, MarkIs, found}
use Rattle.keyturn.proofs.Build.{OwnStatus, Reached, Half, Full, full-half, PagesBy, left, build, no_own, bound-same, bound-set}
use Rattle.keyturn.proofs.Adds.{Adds, adds_none, DbKept, ClogKept, log_is, db-same, clog-same, clog-set, set-loads, mid-added, mid-cut, found_word, found-slot, half-pages, full-pages, cut-pages}

-- ---- the call's own status

own-early : (c : Call) (old new : Option Status) → (c ≡ Commit → old ≡ Some Active) → new ≡ kept old → OwnStatus false c old new
own-early (Install id ps) old new a e = tt
own-early Uninstall old new a e = tt
own-early AllocId old new a e = tt
own-early AllocPage old new a e = tt
own-early (Begin id) old new a e = inl e
own-early (Read p) old new a e = tt
own-early (Write p bytes) old new a e = tt
own-early (Flush p) old new a e = tt
own-early Commit old new a e = e ∙ ap kept (a refl)
own-early (Rollback list) old new a e = inl e
own-early (Advance v) old new a e = tt

mark-higher : (c : Call) (w : World) → w.mem.mark.0 ≤ mark_of c w
mark-higher (Install id ps) w = omega arith
mark-higher Uninstall w = omega arith
mark-higher AllocId w = omega arith
mark-higher AllocPage w = omega arith
mark-higher (Begin id) w = omega arith
mark-higher (Read p) w = omega arith
mark-higher (Write p bytes) w = omega arith
mark-higher (Flush p) w = omega arith
mark-higher Commit w = omega arith
mark-higher (Rollback list) w = omega arith
mark-higher (Advance v) w = omega arith

-- its id is at or above the mark, and no call that has one moves the mark
own-above : (c : Call) (w : World) → ((id : TransactionId) → own_id c w ≡ Installed id → w.mem.mark.0 ≤ id.0) → (id : TransactionId) → own_id c w ≡ Installed id →
    mark_of c w ≤ id.0
own-above (Install i ps) w a id e = a id e
own-above Uninstall w a id e = a id e
own-above AllocId w a id e = a id e
own-above AllocPage w a id e = a id e
own-above (Begin i) w a id e = a id e
own-above (Read p) w a id e = a id e
own-above (Write p bytes) w a id e = a id e
own-above (Flush p) w a id e = a id e
own-above Commit w a id e = a id e
own-above (Rollback list) w a id e = a id e
own-above (Advance v) w a id e = absurd (no_own id.0 e)

own-active : (P : ℕ) (c : Call) (w : World) → Asked P c w → (id : TransactionId) → own_id c w ≡ Installed id → c ≡ Commit → status_of id.0 w.mem.table ≡ Some Active
own-active P c w q id e h = q.active id h (subst (λ (x : Call). own_id x w ≡ Installed id) h e)

module _ (P : ℕ) (big : 36 ≤ P) (w : World) (v : Kept P w) where
  abbrev old : List Record
  old = records P w.files.log

  -- ---- before the call's own word is in the log

  pub early : (c : Call) → Asked P c w → (zs : List Record) (g : Files) → LogIs P g.log (old ++ zs) → Adds P Empty (room w.files.db) (room w.files.clog) zs →
      DbKept P w (mark_of c w) g → ClogKept w Empty (mark_of c w) g → Half P w (written c w) (left P (old ++ zs) g) → Reached P false c w g
  early c q zs g l a d k h =
      let m = mid-added P w v Empty (mark_of c w) zs g l a d k in
      build P big w v c false Empty (old ++ zs) g (mark-higher c w) m w.mem.table (bound-same P w v) (λ t n. no_own t)
      (λ id e. own-early c (status_of id.0 w.mem.table) _ (own-active P c w q id e)
      (mid.others P big w v Empty (mark_of c w) (mark-higher c w) (old ++ zs) g m w.mem.table (bound-same P w v) id.0 (no_own id.0) (own-above c w q.above id e)))
      h

  -- files as they were, but perhaps for the first bytes of a record
  pub stays : (c : Call) → Asked P c w → (g : Files) → Stays P w.files old g → Reached P false c w g
  unfolding images_of
  stays c q g s =
      early c q [] g (rw append-nil s.0) (adds_none P Empty _ _) (db-same P w v _ g s.1) (clog-same P w v g Empty (mark_of c w) s.2)
      (half-pages P w v [] [] (written c w) g (λ i b. unfold imaged_all in refl) (λ p h. in-none p h) s.1)

  pub still : (c : Call) → Asked P c w → Reached P false c w w.files
  still c q = stays c q w.files (whole_is P w.files.log old (log_is P w v), refl, refl)

  -- ---- meta written over a whole page 0, to a position

  module _ (f : Files) (next time mark : ℕ) (small : mark < 2 ^ 64) (above : ℕ) (among : MarkIs w above mark) (d : DbKept P w above f) where
    abbrev meta : Step
    meta = Page 0 (meta_page P next time mark)

    first-whole : P ≤ f.db.len
    first-whole = stands-whole P f.db d.mark d.fits d.stands

    meta-has : 0 * P + length (meta_page P next time mark) ≤ room f.db
    meta-has = omega (arith, first-whole, d.fits, zero-mul P, length-meta P big next time mark)

    meta-page : (pos : ℕ) → PageTo P 0 (length (meta_page P next time mark)) f (apply_to P pos meta f)
    meta-page pos = page-to P 0 (meta_page P next time mark) f d.fits meta-has pos

    pub meta-db : (pos : ℕ) → DbKept P w above (apply_to P pos meta f)
    meta-db zero = rw (to_none P meta f) d
    meta-db (suc n) = record {
      size = (meta-page (suc n)).size ∙ d.size;
      fits = (meta-page (suc n)).fits;
      mark = mark;
      stands = meta-part P big f next time mark d.fits first-whole small n;
      among = among;
    }

    pub meta-byte : (pos p i : ℕ) → 0 < p → byte_of (apply_to P pos meta f).db (p * P + i) ≡ byte_of f.db (p * P + i)
    meta-byte pos p i h = (meta-page pos).after (p * P + i) (omega (arith, zero-mul P, length-meta P big next time mark, page-high P p h))

    pub meta-log : (pos : ℕ) → (apply_to P pos meta f).log ≡ f.log
    meta-log pos = (meta-page pos).log

    pub meta-clog : (pos : ℕ) → (apply_to P pos meta f).clog ≡ f.clog
    meta-clog pos = (meta-page pos).clog

  -- ---- after it: the call's id has the status s in the log, in the clog, or in both

  module _ (c : Call) (counts : Bool) (id : TransactionId) (s : Status) (own : own_id c w ≡ Installed id) (fit : 8 + id.0 / 4 < room w.files.clog)
      (few : length (insert_entry (record { id = id; status = s }) w.mem.table) ≤ 256)
      (said : OwnStatus counts c (status_of id.0 w.mem.table) (settled_known (Some s)))
      (slotted : OwnStatus counts c (status_of id.0 w.mem.table) (kept (Some s))) where
    fewer : (t : ℕ) → NotOwn (own_id c w) t → NotOwn (Installed id) t
    fewer t n e = n (own ∙ e)

    unslot : Slot → ℕ
    unslot (Installed i) = i.0
    unslot Empty = 0

    own-by : (k : ℕ → Option Status) → OwnStatus counts c (status_of id.0 w.mem.table) (k id.0) → (i : TransactionId) → own_id c w ≡ Installed i →
        OwnStatus counts c (status_of i.0 w.mem.table) (k i.0)
    unfolding unslot
    own-by k h i e =
        let q : id.0 ≡ i.0 = ap unslot (sym own ∙ e) in
        subst (λ (n : ℕ). OwnStatus counts c (status_of n w.mem.table) (k n)) q h

    pub late-added : (zs : List Record) (g : Files) → LogIs P g.log (old ++ zs) → Adds P (Installed id) (room w.files.db) (room w.files.clog) zs →
        last_word id.0 zs ≡ Some s → DbKept P w (mark_of c w) g → ClogKept w (Installed id) (mark_of c w) g → PagesBy counts P w (written c w) (left P (old ++ zs) g) →
        Reached P counts c w g
    late-added zs g l a h d k p =
        build P big w v c counts (Installed id) (old ++ zs) g (mark-higher c w) (mid-added P w v (Installed id) (mark_of c w) zs g l a d k)
        (insert_entry (record { id = id; status = s }) w.mem.table) (bound-set P w id s v few) fewer
        (own-by (found (old ++ zs) g.clog) (subst (λ (x : Option Status). OwnStatus counts c (status_of id.0 w.mem.table) x) (sym (found_word P w v zs g.clog id.0 s h)) said)) p

    pub late-cut : (g : Files) → LogIs P g.log [] → DbKept P w (mark_of c w) g → g.clog ≡ set_slot 8 id.0 (code_of s) w.files.clog →
        PagesBy counts P w (written c w) (left P [] g) → Reached P counts c w g
    late-cut g l d k p =
        build P big w v c counts (Installed id) [] g (mark-higher c w) (mid-cut P w v (Installed id) (mark_of c w) g l d (clog-set P w v g id s (mark_of c w) k fit))
        (insert_entry (record { id = id; status = s }) w.mem.table) (bound-set P w id s v few) fewer
        (own-by (found [] g.clog) (subst (λ (x : Option Status). OwnStatus counts c (status_of id.0 w.mem.table) x)
        (sym (found-slot P w v g.clog id.0 ∙ set-loads P w v g id s k fit)) slotted)) p

    -- ---- the end of a commit and of a rollback with pages: checkpoint, truncation, meta

    by-full : (b : Bool) (D : ℕ → ℕ) → Full P w (written c w) D → PagesBy b P w (written c w) D
    by-full true D f = f
    by-full false D f = full-half P w (written c w) D f

    -- the database has the bytes of the call's pages
    abbrev Bytes : Files → Type 0
    Bytes g = (p i : ℕ) → 0 < p → i < P → byte_of g.db (p * P + i) ≡ imaged_all P (images_of P w (written c w)) (p * P + i) (byte_of w.files.db (p * P + i))

    abbrev Goal : Files → Type 0
    Goal g = Reached P counts c w g

    module _ (positive : (p : ℕ) → is_in p (written c w) ≡ true → 0 < p) (next time : ℕ) where
      -- the log cut back, and meta written to a position
      pub cut-state : (g : Files) → LogIs P g.log [] → DbKept P w (mark_of c w) g → g.clog ≡ set_slot 8 id.0 (code_of s) w.files.clog → Bytes g → Goal g
      cut-state g l d k b = late-cut g l d k (by-full counts (left P [] g) (cut-pages P w v (written c w) g positive b))

      pub end-meta : (f : Files) → LogIs P f.log [] → DbKept P w (mark_of c w) f → f.clog ≡ set_slot 8 id.0 (code_of s) w.files.clog → Bytes f → (pos : ℕ) →
          Goal (apply_to P pos (Page 0 (meta_page P next time w.mem.mark.0)) f)
      end-meta f l d k b pos =
          cut-state _ (subst (λ (x : File). LogIs P x []) (sym (meta-log f next time w.mem.mark.0 v.small (mark_of c w) (mid.old refl) d pos)) l)
          (meta-db f next time w.mem.mark.0 v.small (mark_of c w) (mid.old refl) d pos)
          (meta-clog f next time w.mem.mark.0 v.small (mark_of c w) (mid.old refl) d pos ∙ k)
          (λ p i h q. meta-byte f next time w.mem.mark.0 v.small (mark_of c w) (mid.old refl) d pos p i h ∙ b p i h q)

      module _ (xs ys : List Record) (px : (i b : ℕ) → imaged_all P xs i b ≡ b) (py : (i b : ℕ) → imaged_all P ys i b ≡ b) where
        abbrev all : List Record → List Record
        all y = xs ++ (images_of P w (written c w) ++ y)

        -- all images in the log, pages of the call written or not
        pub with-images : (g : Files) → LogIs P g.log (old ++ all ys) → Adds P (Installed id) (room w.files.db) (room w.files.clog) (all ys) →
            last_word id.0 (all ys) ≡ Some s → DbKept P w (mark_of c w) g → ClogKept w (Installed id) (mark_of c w) g →
            ((p i : ℕ) → 0 < p → is_in p (written c w) ≡ false → i < P → byte_of g.db (p * P + i) ≡ byte_of w.files.db (p * P + i)) → Goal g
        with-images g l a h d k out = late-added (all ys) g l a h d k (by-full counts (left P (old ++ all ys) g) (full-pages P w v xs ys (written c w) g px py out))
