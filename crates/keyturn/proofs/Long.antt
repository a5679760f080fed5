-- Commit and rollback, cut anywhere. P is the page size. Assumes nothing.
use mathlib.Core.Path.{◌≡◌, refl, ap, ◌∙◌, subst}
use mathlib.Core.List.{List, [], ◌∷◌, ◌++◌, append_assoc}
use mathlib.Core.Bool.{Bool, true, false}
use Prim.Native.Nat.{ℕ, zero, suc, ◌+◌, ◌*◌, ◌/◌, ◌≤◌, ◌<◌}
use native.Mathlib.Omega.{arith}
use lib.ListN.{length}
use borrow.Author.Tests.{leb-false}
use Rattle.fields.specs.declared.TransactionId.{TransactionId}
use Rattle.fields.specs.Files.{File, room}
use Rattle.fields.proofs.Tests.{Order, less, most, order, neither}
use Rattle.wal.specs.Records.{Record, checkpoint, encode}
use Rattle.table.specs.declared.Status.{Status}
use Rattle.std.specs.Prelude.{Option, Some, None}
use Rattle.table.specs.Entries.{insert_entry, status_of}
use Rattle.table.proofs.Facts.{or_known, settled_known, no-status}
use Rattle.clog.specs.Slots.{code_of, set_slot}
use Rattle.meta.specs.Page.{meta_page}
use Rattle.frames.specs.Pages.{is_in, bad_page, any_bad}
use Rattle.frames.proofs.Lists.{InCons, first, later, in-cons, out-cons, in-none}
use Rattle.world.specs.declared.Slot.TheVariants.{Installed}
use Rattle.world.specs.World.{Files, World}
use Rattle.world.specs.Steps.{Log, Page, Truncate, apply, most_of, db_end}
use Rattle.world.specs.Calls.{Call, writes}
use Rattle.world.proofs.RoomLaws.{writes-db}
use Rattle.opening.specs.Opening.{records}
use Rattle.opening.proofs.Tables.{last_word, word-append}
use Rattle.opening.proofs.Replays.{imaged_all, imaged-append}
use Rattle.opening.proofs.Pages.{images_of, images-words, images-out}
use Rattle.partway.specs.Partway.{apply_to, cut_all}
use Rattle.partway.proofs.Laws.{to_none, cut-cons, cut-last}
use Rattle.keyoff.specs.KeyOff.{kept}
use Rattle.keyoff.proofs.Invariant.{Kept}
use Rattle.keyturn.specs.KeyTurn.{own_id}
use Rattle.keyturn.proofs.Asked.{written, mark_of}
use Rattle.keyturn.proofs.Logs.{LogIs, LogWhole, whole_is, Stays, log-part, log-done, log-whole, trunc-whole, trunc-part}
use Rattle.keyturn.proofs.Dbs.{byte_of}
use Rattle.keyturn.proofs.Parts.{Fine, AllFine}
use Rattle.keyturn.proofs.Build.{OwnStatus, Reached}
use Rattle.keyturn.proofs.Adds.{Adds, adds-append, adds-images, adds-checkpoint, DbKept, ClogKept, clog-set}
use Rattle.keyturn.proofs.Walk.{cut-state, end-meta, with-images}

-- ---- the pages of a transaction

pub fine-pages : (P size : ℕ) (w : World) (ps : List ℕ) → any_bad ps ≡ false → is_in 0 ps ≡ false → most_of (db_end P) (writes P w ps) ≤ size → AllFine P size ps
fine-pages P size w [] b z m p h = in-none p h
fine-pages P size w (q ∷ ps) b z m p h =
    let n : (bad_page q ≡ false) × (any_bad ps ≡ false) = unfold any_bad in neither (bad_page q) (any_bad ps) b in
    let o = out-cons 0 q ps z in
    let own : Fine P size q = (omega (arith, o.0), leb-false 4294967295 q n.0, omega (arith, writes-db P w q ps)) in
    go (in-cons p q ps h) own (fine-pages P size w ps n.1 o.1 (omega (arith, writes-db P w q ps)) p)
  where
    go : InCons p q ps → Fine P size q → (is_in p ps ≡ true → Fine P size p) → Fine P size p
    go (first e) own ih = subst (λ (x : ℕ). Fine P size x) e own
    go (later e) own ih = ih e

module _ (P : ℕ) (big : 36 ≤ P) (w : World) (v : Kept P w) where
  abbrev old : List Record
  old = records P w.files.log

  pub db-moved : (above : ℕ) (f g : Files) → g.db ≡ f.db → DbKept P w above f → DbKept P w above g
  db-moved above f g e d = record { size = ap room e ∙ d.size; fits = rw e d.fits; mark = d.mark; stands = rw e d.stands; among = d.among }

  -- ---- the end of both: checkpoint, truncation, meta

  module _ (c : Call) (counts : Bool) (id : TransactionId) (s : Status) (own : own_id c w ≡ Installed id) (fit : 8 + id.0 / 4 < room w.files.clog)
      (few : length (insert_entry (record { id = id; status = s }) w.mem.table) ≤ 256)
      (said : OwnStatus counts c (status_of id.0 w.mem.table) (settled_known (Some s)))
      (slotted : OwnStatus counts c (status_of id.0 w.mem.table) (kept (Some s)))
      (fine : AllFine P (room w.files.db) (written c w)) (next time : ℕ)
      (xs ys : List Record) (px : (i b : ℕ) → imaged_all P xs i b ≡ b) (py : (i b : ℕ) → imaged_all P ys i b ≡ b)
      (ax : Adds P (Installed id) (room w.files.db) (room w.files.clog) xs) (ay : Adds P (Installed id) (room w.files.db) (room w.files.clog) ys) where
    abbrev Goal : Files → Type 0
    Goal g = Reached P counts c w g

    abbrev pages : List Record
    pages = images_of P w (written c w)

    abbrev all : List Record → List Record
    all y = xs ++ (pages ++ y)

    abbrev Sizes : List Record → Type 0
    Sizes zs = Adds P (Installed id) (room w.files.db) (room w.files.clog) zs

    positive : (p : ℕ) → is_in p (written c w) ≡ true → 0 < p
    positive p h = (fine p h).0

    adds-all : (y : List Record) → Sizes y → Sizes (all y)
    adds-all y a = adds-append P (Installed id) _ _ xs (pages ++ y) ax (adds-append P (Installed id) _ _ pages y (adds-images P (Installed id) _ _ w (written c w) fine) a)

    -- what the log says of the id
    all-word : (y : List Record) → last_word id.0 (all y) ≡ or_known (last_word id.0 y) (last_word id.0 xs)
    all-word y = word-append id.0 xs (pages ++ y) ∙ rw (word-append id.0 pages y, images-words P w id.0 (written c w)) (gone (last_word id.0 y))
      where
        gone : (k : Option Status) → or_known (or_known k None) (last_word id.0 xs) ≡ or_known k (last_word id.0 xs)
        gone (Some u) = refl
        gone None = refl

    module _ (word : or_known (last_word id.0 ys) (last_word id.0 xs) ≡ Some s) where
      -- all images in the log, and the pages written or not
      pub logged-state : (g : Files) → LogIs P g.log (old ++ all ys) → DbKept P w (mark_of c w) g → ClogKept w (Installed id) (mark_of c w) g →
          ((p i : ℕ) → 0 < p → is_in p (written c w) ≡ false → i < P → byte_of g.db (p * P + i) ≡ byte_of w.files.db (p * P + i)) → Goal g
      logged-state g l d k out =
          with-images P big w v c counts id s own fit few said slotted positive next time xs ys px py g l (adds-all ys ay) (all-word ys ∙ word) d k out

      -- the same with a checkpoint behind
      more : List Record
      more = ys ++ (checkpoint ∷ [])

      more-plain : (i b : ℕ) → imaged_all P more i b ≡ b
      unfolding more
      more-plain i b = imaged-append P ys (checkpoint ∷ []) i b ∙ (unfold imaged_all in py i b)

      more-word : last_word id.0 (all more) ≡ Some s
      unfolding more
      more-word = all-word (ys ++ (checkpoint ∷ [])) ∙ rw (word-append id.0 ys (checkpoint ∷ [])) (silent ∙ word)
        where
          silent : or_known (or_known (last_word id.0 (checkpoint ∷ [])) (last_word id.0 ys)) (last_word id.0 xs) ≡ or_known (last_word id.0 ys) (last_word id.0 xs)
          silent = unfold last_word in rw (no-status id.0)

      more-all : (old ++ all ys) ++ (checkpoint ∷ []) ≡ old ++ all more
      unfolding more
      more-all =
          append_assoc old (all ys) (checkpoint ∷ [])
          ∙ ap (λ (l : List Record). old ++ l) (append_assoc xs (pages ++ ys) (checkpoint ∷ []) ∙ ap (λ (l : List Record). xs ++ l) (append_assoc pages ys (checkpoint ∷ [])))

      more-adds : Sizes (all more)
      unfolding more
      more-adds = adds-all (ys ++ (checkpoint ∷ [])) (adds-append P (Installed id) _ _ ys (checkpoint ∷ []) ay (adds-checkpoint P (Installed id) _ _))

      module _ (f : Files) (l : LogWhole P f.log (old ++ all ys)) (space : f.log.len + 1 ≤ room f.log) (d : DbKept P w (mark_of c w) f)
          (k : f.clog ≡ set_slot 8 id.0 (code_of s) w.files.clog)
          (b : (p i : ℕ) → 0 < p → i < P → byte_of f.db (p * P + i) ≡ imaged_all P pages (p * P + i) (byte_of w.files.db (p * P + i))) where
        out : (p i : ℕ) → 0 < p → is_in p (written c w) ≡ false → i < P → byte_of f.db (p * P + i) ≡ byte_of w.files.db (p * P + i)
        out p i h n q = b p i h q ∙ images-out P w (written c w) p i _ n q

        one : length (encode checkpoint) ≡ 1
        unfolding encode
        one = refl

        space1 : f.log.len + length (encode checkpoint) ≤ room f.log
        space1 = omega (arith, one)

        abbrev marked : Files
        marked = apply P (Log checkpoint) f

        whole1 : LogWhole P marked.log (old ++ all more)
        whole1 = rw more-all at (log-whole P f (old ++ all ys) checkpoint l tt space1)

        db1 : marked.db ≡ f.db
        unfolding apply
        db1 = refl

        clog1 : marked.clog ≡ f.clog
        unfolding apply
        clog1 = refl

        marked-state : Goal marked
        marked-state =
            with-images P big w v c counts id s own fit few said slotted positive next time xs more px more-plain marked (whole_is P marked.log (old ++ all more) whole1)
            more-adds more-word (db-moved _ f marked db1 d) (clog-set P w v marked id s (mark_of c w) (clog1 ∙ k) fit)
            (λ p i h n q. ap (λ (x : File). byte_of x (p * P + i)) db1 ∙ out p i h n q)

        to-checkpoint : (pos : ℕ) → Goal (apply_to P pos (Log checkpoint) f)
        to-checkpoint pos = go (order pos (length (encode checkpoint)))
          where
            go : Order pos (length (encode checkpoint)) → Goal (apply_to P pos (Log checkpoint) f)
            go (less h) =
                let g = apply_to P pos (Log checkpoint) f in
                let t = log-part P f (old ++ all ys) checkpoint l tt space1 pos h in
                logged-state g t.0 (db-moved _ f g t.1 d) (clog-set P w v g id s (mark_of c w) (t.2 ∙ k) fit) (λ p i h n q. ap (λ (x : File). byte_of x (p * P + i)) t.1 ∙ out p i h n q)
            go (most h) = rw (log-done P f (old ++ all ys) checkpoint pos h) marked-state

        -- what a truncation leaves
        cut : (g : Files) → Stays P marked [] g → Goal g
        cut g t =
            cut-state P big w v c counts id s own fit few said slotted positive next time g t.0 (db-moved _ f g (t.1 ∙ db1) d) (t.2 ∙ clog1 ∙ k)
            (λ p i h q. ap (λ (x : File). byte_of x (p * P + i)) (t.1 ∙ db1) ∙ b p i h q)

        big-room : room marked.log ≤ 16777216
        big-room = whole1.size

        head-room : 8 ≤ room marked.log
        head-room = (whole_is P marked.log (old ++ all more) whole1).head

        to-truncate : (pos : ℕ) → Goal (apply_to P pos Truncate marked)
        to-truncate zero = rw (to_none P Truncate marked) marked-state
        to-truncate (suc n) = cut (apply_to P (suc n) Truncate marked) (trunc-part P marked big-room head-room n)

        to-meta : (pos : ℕ) → Goal (apply_to P pos (Page 0 (meta_page P next time w.mem.mark.0)) (apply P Truncate marked))
        to-meta pos =
            let t = trunc-whole P marked big-room head-room in
            let g = apply P Truncate marked in
            end-meta P big w v c counts id s own fit few said slotted positive next time g t.0 (db-moved _ f g (t.1 ∙ db1) d) (t.2 ∙ clog1 ∙ k)
            (λ p i h q. ap (λ (x : File). byte_of x (p * P + i)) (t.1 ∙ db1) ∙ b p i h q) pos

        pub tail_turned : (k pos : ℕ) → Goal (cut_all P k pos (Log checkpoint ∷ Truncate ∷ Page 0 (meta_page P next time w.mem.mark.0) ∷ []) f)
        tail_turned =
            cut-cons P Goal (Log checkpoint) (Truncate ∷ Page 0 (meta_page P next time w.mem.mark.0) ∷ []) f to-checkpoint
            (cut-cons P Goal Truncate (Page 0 (meta_page P next time w.mem.mark.0) ∷ []) marked to-truncate
            (cut-last P Goal (Page 0 (meta_page P next time w.mem.mark.0)) (apply P Truncate marked) to-meta))
