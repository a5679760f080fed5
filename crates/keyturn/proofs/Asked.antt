-- The cut call, in the terms that the proof goes by: what is asked of it, the pages that it writes and the mark that it leaves, each call by call; and that these
-- are what the statement reads off its stores and its memory. P is the page size. Assumes nothing.
use mathlib.Core.Path.{◌≡◌, refl, ap, ◌∙◌}
use mathlib.Core.List.{List, [], ◌∷◌, ◌++◌, append-nil}
use mathlib.Core.Bool.{Bool, true, false, cond}
use Prim.Native.Nat.{ℕ, ◌≤◌, ◌<◌, max}
use native.Mathlib.Omega.{arith}
use lib.Dec.{ltb}
use lib.ListN.{length}
use borrow.Author.Tests.{ne_eqb}
use Rattle.fields.specs.declared.TransactionId.{TransactionId}
use Rattle.fields.proofs.Tests.{Order, less, most, order, or-false}
use Rattle.wal.specs.Records.{image}
use Rattle.table.specs.declared.Status.TheVariants.{Active}
use Rattle.std.specs.Prelude.{Some}
use Rattle.table.specs.Entries.{status_of}
use Rattle.frames.specs.Pages.{is_in}
use Rattle.frames.proofs.Lists.{in-join}
use Rattle.world.specs.declared.Slot.{Slot}
use Rattle.world.specs.declared.Slot.TheVariants.{Installed, Empty}
use Rattle.world.specs.World.{Mem, World}
use Rattle.world.specs.Steps.{Step, Log, Page, SetSlot, Compact, Truncate, Reset}
use Rattle.world.specs.Calls.{Call, Install, Uninstall, AllocId, AllocPage, Begin, Read, Write, Flush, Commit, Rollback, Advance, held_page, held, data_pages, images, writes, flush_steps, commit_steps, data_steps, back_steps, rollback_steps, meta_step, advanced, advance_steps, steps, keeps}
use Rattle.world.specs.Refusals.{refuses}
use Rattle.world.specs.Run.{decided}
use Rattle.world.proofs.FrameLaws.{seat-mem, write_mem}
use Rattle.world.proofs.CallLaws as laws
use Rattle.keyoff.specs.KeyOff.{ZeroFlush, Typed}
use Rattle.keyturn.specs.KeyTurn.{own_id, pages_in, record_whole}

-- ---- what is asked

pub record Asked (P : ℕ) (c : Call) (w : World) : Type 0 where
  pub typed : Typed c
  pub quiet : ZeroFlush P c w → ⊥
  pub zero : (id : TransactionId) → w.mem.slot ≡ Installed id → is_in 0 w.mem.touched ≡ false
  pub above : (id : TransactionId) → own_id c w ≡ Installed id → w.mem.mark.0 ≤ id.0
  pub active : (id : TransactionId) → c ≡ Commit → w.mem.slot ≡ Installed id → status_of id.0 w.mem.table ≡ Some Active

-- ---- its pages, but for page 0's counters

abbrev pub in_slot : Slot → List ℕ → List ℕ
in_slot (Installed id) ps = ps
in_slot Empty ps = []

abbrev pub out_of_slot : Slot → List ℕ → List ℕ
out_of_slot (Installed id) ps = []
out_of_slot Empty ps = ps

unfoldable pub written : Call → World → List ℕ
written (Install id ps) w = []
written Uninstall w = []
written AllocId w = []
written AllocPage w = []
written (Begin id) w = []
written (Read p) w = []
written (Write p bytes) w = []
written (Flush p) w = out_of_slot w.mem.slot (cond (is_in p w.mem.resident) (p ∷ []) [])
written Commit w = in_slot w.mem.slot (held w.mem)
written (Rollback list) w = in_slot w.mem.slot (data_pages list w.mem)
written (Advance v) w = []

pages-append : (ss ts : List Step) → pages_in (ss ++ ts) ≡ pages_in ss ++ pages_in ts
unfolding pages_in
pages-append [] ts = refl
pages-append (Log r ∷ ss) ts = pages-append ss ts
pages-append (Page p bytes ∷ ss) ts = ap (λ (l : List ℕ). p ∷ l) (pages-append ss ts)
pages-append (SetSlot id s ∷ ss) ts = pages-append ss ts
pages-append (Compact w ∷ ss) ts = pages-append ss ts
pages-append (Truncate ∷ ss) ts = pages-append ss ts
pages-append (Reset ∷ ss) ts = pages-append ss ts

module _ (P : ℕ) (w : World) where
  pages-images : (ps : List ℕ) → pages_in (images P w ps) ≡ []
  unfolding pages_in images
  pages-images [] = refl
  pages-images (p ∷ ps) = pages-images ps

  pages-writes : (ps : List ℕ) → pages_in (writes P w ps) ≡ ps
  unfolding pages_in writes
  pages-writes [] = refl
  pages-writes (p ∷ ps) = ap (λ (l : List ℕ). p ∷ l) (pages-writes ps)

  module _ (q : ℕ) (above : 0 < q) where
    -- a page that is not page 0, with page 0 after others
    but-zero : (ps : List ℕ) → is_in q (ps ++ (0 ∷ [])) ≡ is_in q ps
    unfolding is_in
    but-zero ps = in-join q ps (0 ∷ []) ∙ rw (ne_eqb 0 q (λ e. omega arith)) (or-false (is_in q ps))

    pages-commit : (id : TransactionId) → is_in q (pages_in (commit_steps P w (Installed id))) ≡ is_in q (held w.mem)
    unfolding commit_steps pages_in
    pages-commit id =
        rw (pages-append (images P w (held w.mem)), pages-images (held w.mem), pages-append (writes P w (held w.mem)), pages-writes (held w.mem))
        (but-zero (held w.mem))

    pages-data : (ps : List ℕ) → pages_in (data_steps P w ps) ≡ ps
    unfolding data_steps pages_in
    pages-data [] = refl
    pages-data (p ∷ ps) =
        rw (pages-append (images P w (p ∷ ps)), pages-images (p ∷ ps), pages-append (writes P w (p ∷ ps)), pages-writes (p ∷ ps)) (append-nil (p ∷ ps))

    pages-back : (list : List ℕ) (id : TransactionId) → is_in q (pages_in (rollback_steps P list w (Installed id))) ≡ is_in q (data_pages list w.mem)
    unfolding rollback_steps back_steps pages_in
    pages-back list id =
        rw (pages-append (data_steps P w (data_pages list w.mem)), pages-data (data_pages list w.mem)) (but-zero (data_pages list w.mem))

    -- so what the statement says of a call's pages is said of these
    pub written-pages : (c : Call) → is_in q (pages_in (steps P c w)) ≡ is_in q (written c w)
    unfolding steps advance_steps written pages_in
    written-pages (Install id ps) = refl
    written-pages Uninstall = refl
    written-pages AllocId = refl
    written-pages AllocPage = refl
    written-pages (Begin id) = refl
    written-pages (Read p) = refl
    written-pages (Write p bytes) = refl
    written-pages (Flush p) = by-slot w.mem.slot
      where
        inner : (b : Bool) → is_in q (pages_in (cond b (Log (image p (held_page P w p)) ∷ Page p (held_page P w p) ∷ []) [])) ≡ is_in q (cond b (p ∷ []) [])
        inner true = unfold pages_in in refl
        inner false = unfold pages_in in refl

        by-slot : (s : Slot) → is_in q (pages_in (flush_steps P p w s)) ≡ is_in q (out_of_slot s (cond (is_in p w.mem.resident) (p ∷ []) []))
        by-slot (Installed id) = unfold flush_steps pages_in in refl
        by-slot Empty = unfold flush_steps in inner (is_in p w.mem.resident)
    written-pages Commit = by-slot w.mem.slot
      where
        by-slot : (s : Slot) → is_in q (pages_in (commit_steps P w s)) ≡ is_in q (in_slot s (held w.mem))
        by-slot (Installed id) = pages-commit id
        by-slot Empty = unfold commit_steps pages_in in refl
    written-pages (Rollback list) = by-slot w.mem.slot
      where
        by-slot : (s : Slot) → is_in q (pages_in (rollback_steps P list w s)) ≡ is_in q (in_slot s (data_pages list w.mem))
        by-slot (Installed id) = pages-back list id
        by-slot Empty = unfold rollback_steps pages_in in refl
    written-pages (Advance v) = inner (ltb w.mem.mark.0 v.0)
      where
        inner : (b : Bool) → is_in q (pages_in (cond b (Compact v.0 ∷ meta_step P (advanced v w.mem) ∷ []) [])) ≡ is_in q []
        inner true = unfold pages_in in but-zero []
        inner false = unfold pages_in in refl

-- ---- its mark: the one that it leaves, were it accepted

abbrev pub mark_of : Call → World → ℕ
mark_of (Install id ps) w = w.mem.mark.0
mark_of Uninstall w = w.mem.mark.0
mark_of AllocId w = w.mem.mark.0
mark_of AllocPage w = w.mem.mark.0
mark_of (Begin id) w = w.mem.mark.0
mark_of (Read p) w = w.mem.mark.0
mark_of (Write p bytes) w = w.mem.mark.0
mark_of (Flush p) w = w.mem.mark.0
mark_of Commit w = w.mem.mark.0
mark_of (Rollback list) w = w.mem.mark.0
mark_of (Advance v) w = max w.mem.mark.0 v.0

pub mark-is : (P : ℕ) (w : World) (c : Call) → (keeps P c w).mem.mark.0 ≡ mark_of c w
mark-is P w (Install id ps) = unfold keeps in refl
mark-is P w Uninstall = unfold keeps in refl
mark-is P w AllocId = unfold keeps in refl
mark-is P w AllocPage = unfold keeps in refl
mark-is P w (Begin id) = unfold keeps in refl
mark-is P w (Read p) = unfold keeps in ap (λ (m : Mem). m.mark.0) (seat-mem P w.files.db p w)
mark-is P w (Write p bytes) = unfold keeps in ap (λ (m : Mem). m.mark.0) (write_mem P w.files.db p bytes w)
mark-is P w (Flush p) = go w.mem.slot refl
  where
    go : (s : Slot) → w.mem.slot ≡ s → (keeps P (Flush p) w).mem.mark.0 ≡ w.mem.mark.0
    go (Installed id) e = ap (λ (m : Mem). m.mark.0) (laws.flush-mem-in P p w id e)
    go Empty e = ap (λ (u : World). u.mem.mark.0) (laws.flush-keeps-out P p w e)
mark-is P w Commit = go w.mem.slot refl
  where
    go : (s : Slot) → w.mem.slot ≡ s → (keeps P Commit w).mem.mark.0 ≡ w.mem.mark.0
    go (Installed id) e = ap (λ (m : Mem). m.mark.0) (laws.commit-mem P w id e)
    go Empty e = ap (λ (u : World). u.mem.mark.0) (laws.commit-keeps-empty P w e)
mark-is P w (Rollback list) = go w.mem.slot refl
  where
    go : (s : Slot) → w.mem.slot ≡ s → (keeps P (Rollback list) w).mem.mark.0 ≡ w.mem.mark.0
    go (Installed id) e = ap (λ (m : Mem). m.mark.0) (laws.rollback-mem P list w id e)
    go Empty e = ap (λ (u : World). u.mem.mark.0) (laws.rollback-keeps-empty P list w e)
mark-is P w (Advance v) = go (order w.mem.mark.0 v.0)
  where
    go : Order w.mem.mark.0 v.0 → (keeps P (Advance v) w).mem.mark.0 ≡ max w.mem.mark.0 v.0
    go (less h) =
        let e : (keeps P (Advance v) w).mem.mark.0 ≡ v.0 = ap (λ (m : Mem). m.mark.0) (laws.advance-mem P v w h) in
        omega (arith, e)
    go (most h) =
        let e : (keeps P (Advance v) w).mem.mark.0 ≡ w.mem.mark.0 = ap (λ (u : World). u.mem.mark.0) (laws.advance-keeps-none P v w h) in
        omega (arith, e)

-- ---- it is a commit that counts

unfoldable pub slot_counts : ℕ → ℕ → World → Slot → Bool
slot_counts k pos w Empty = false
slot_counts k pos w (Installed id) = record_whole id.0 w.mem.time.0 (length (held w.mem)) k pos

unfoldable pub counts : ℕ → ℕ → ℕ → Call → World → Bool
counts P k pos (Install id ps) w = false
counts P k pos Uninstall w = false
counts P k pos AllocId w = false
counts P k pos AllocPage w = false
counts P k pos (Begin id) w = false
counts P k pos (Read p) w = false
counts P k pos (Write p bytes) w = false
counts P k pos (Flush p) w = false
counts P k pos Commit w = decided (refuses P Commit w) (slot_counts k pos w w.mem.slot) false
counts P k pos (Rollback list) w = false
counts P k pos (Advance v) w = false
