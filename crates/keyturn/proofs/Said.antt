-- From what is found of the opening after a cut to the request's own sentences: pages as lists of bytes, and each kind of call by itself. P is the page size.
-- Assumes nothing.
use mathlib.Core.Path.{◌≡◌, refl, sym, ap, ◌∙◌, subst}
use mathlib.Core.Logic.{◌⊎◌, inl, inr}
use mathlib.Core.List.{List}
use mathlib.Core.Bool.{Bool, true, false}
use Prim.Native.Nat.{ℕ, ◌*◌, ◌<◌}
use native.Mathlib.Omega.{arith}
use lib.ListN.{length}
use lib.Seq.{ext_get_or}
use Rattle.fields.specs.declared.TransactionId.{TransactionId}
use Rattle.fields.specs.declared.CommitTime.{CommitTime}
use Rattle.fields.specs.Files.{content}
use Rattle.fields.proofs.ByteLaws.{length_part, part-byte, part_same}
use Rattle.table.specs.declared.Status.{Status}
use Rattle.table.specs.declared.Status.TheVariants.{Committed, Aborted}
use Rattle.std.specs.Prelude.{Option, Some}
use Rattle.frames.specs.Pages.{is_in}
use Rattle.world.specs.declared.Slot.{Slot}
use Rattle.world.specs.declared.Slot.TheVariants.{Installed}
use Rattle.world.specs.World.{World}
use Rattle.world.specs.Calls.{Call, Install, Uninstall, AllocId, AllocPage, Begin, Read, Write, Flush, Commit, Rollback, Advance, held_page, held}
use Rattle.world.specs.Refusals.{refuses}
use Rattle.world.specs.Run.{decided}
use Rattle.world.proofs.RoomLaws.{held_page-length}
use Rattle.opening.specs.Opening.{Opening}
use Rattle.keyoff.specs.KeyOff.{kept}
use Rattle.keyturn.specs.KeyTurn.{own_id, counted, page_in, Turned}
use Rattle.keyturn.proofs.Dbs.{byte_of}
use Rattle.keyturn.proofs.Asked.{written, written-pages, mark-is, slot_counts, counts}
use Rattle.keyturn.proofs.Build.{Before, Imaged, Come, as_before, as-image, PagesBy, OwnStatus, Found, never}

-- ---- pages

module _ (P : ℕ) (w v : World) (p : ℕ) where
  page-before : Before P p w.files.db (byte_of v.files.db) → page_in P v p ≡ page_in P w p
  page-before h = part_same P (content v.files.db) (content w.files.db) (p * P) h

  page-imaged : Imaged P p (held_page P w p) (byte_of v.files.db) → page_in P v p ≡ held_page P w p
  page-imaged h =
      let n : length (page_in P v p) ≡ P = length_part P (content v.files.db) (p * P) in
      ext_get_or 0 (page_in P v p) (held_page P w p) (n ∙ sym (held_page-length P w p))
      (λ i l. let k : i < P = omega arith in part-byte P (content v.files.db) (p * P) i k ∙ h i k)

  page-come : Come P p w.files.db (held_page P w p) (byte_of v.files.db) → (page_in P v p ≡ page_in P w p) ⊎ (page_in P v p ≡ held_page P w p)
  page-come (as_before h) = inl (page-before h)
  page-come (as-image h) = inr (page-imaged h)

-- by whether the commit counts
module _ (P : ℕ) (w v : World) (ps : List ℕ) where
  all-imaged : (b : Bool) → b ≡ true → PagesBy b P w ps (byte_of v.files.db) → (p : ℕ) → is_in p ps ≡ true → page_in P v p ≡ held_page P w p
  all-imaged true e h p i = page-imaged P w v p (h.all p i)
  all-imaged false e h p i = let z : ◌≡◌ {A = ℕ} 0 1 = cc in absurd (omega arith)

  all_either : (b : Bool) → PagesBy b P w ps (byte_of v.files.db) → (p : ℕ) → 0 < p → is_in p ps ≡ true → (page_in P v p ≡ page_in P w p) ⊎ (page_in P v p ≡ held_page P w p)
  all_either true h p l i = inr (page-imaged P w v p (h.all p i))
  all_either false h p l i = page-come P w v p (h.come p l i)

  all_same : (b : Bool) → PagesBy b P w ps (byte_of v.files.db) → (p : ℕ) → 0 < p → is_in p ps ≡ false → page_in P v p ≡ page_in P w p
  all_same true h p l i = page-before P w v p (h.rest p l i)
  all_same false h p l i = page-before P w v p (h.rest p l i)

-- ---- the call's own id

own-undone : (b : Bool) (c : Call) (w : World) (id : TransactionId) → (c ≡ Commit → ⊥) → own_id c w ≡ Installed id → (old new : Option Status) → OwnStatus b c old new →
    (new ≡ kept old) ⊎ (new ≡ Some Aborted)
own-undone b (Install i ps) w id n e old new h = absurd (never id e)
own-undone b Uninstall w id n e old new h = absurd (never id e)
own-undone b AllocId w id n e old new h = absurd (never id e)
own-undone b AllocPage w id n e old new h = absurd (never id e)
own-undone b (Begin i) w id n e old new h = h
own-undone b (Read p) w id n e old new h = absurd (never id e)
own-undone b (Write p bytes) w id n e old new h = absurd (never id e)
own-undone b (Flush p) w id n e old new h = absurd (never id e)
own-undone b Commit w id n e old new h = absurd (n refl)
own-undone b (Rollback list) w id n e old new h = h
own-undone b (Advance v) w id n e old new h = absurd (never id e)

own-committed : (b : Bool) (old new : Option Status) → b ≡ true → OwnStatus b Commit old new → (t : CommitTime) × (new ≡ Some (Committed t))
own-committed true old new e h = h
own-committed false old new e h = let z : ◌≡◌ {A = ℕ} 0 1 = cc in absurd (omega arith)

own-abandoned : (b : Bool) (old new : Option Status) → b ≡ false → OwnStatus b Commit old new → new ≡ Some Aborted
own-abandoned true old new e h = let z : ◌≡◌ {A = ℕ} 0 1 = cc in absurd (omega arith)
own-abandoned false old new e h = h

-- ---- the sentences

module _ (P k pos : ℕ) (w : World) (o : Opening) where
  commit-counts : (id : TransactionId) → w.mem.slot ≡ Installed id → counts P k pos Commit w ≡ counted P k pos id w
  unfolding counts counted slot_counts
  commit-counts id s = ap (λ (x : Slot). decided (refuses P Commit w) (slot_counts k pos w x) false) s

  commit-pages : (id : TransactionId) → w.mem.slot ≡ Installed id → written Commit w ≡ held w.mem
  unfolding written
  commit-pages id s = rw s

  module _ (c : Call) (f : Found P (counts P k pos c w) c w o) where
    -- of a commit
    module _ (id : TransactionId) (e : c ≡ Commit) (s : w.mem.slot ≡ Installed id) where
      as-commit : Found P (counted P k pos id w) Commit w o
      as-commit = subst (λ (b : Bool). Found P b Commit w o) (commit-counts id s) (subst (λ (x : Call). Found P (counts P k pos x w) x w o) e f)

      its-pages : PagesBy (counted P k pos id w) P w (held w.mem) (byte_of o.world.files.db)
      its-pages = subst (λ (ps : List ℕ). PagesBy (counted P k pos id w) P w ps (byte_of o.world.files.db)) (commit-pages id s) as-commit.pages

    pub turned : Turned P k pos c w o
    turned = record {
      accepted = f.accepted;
      committed = λ id e s h. own-committed (counted P k pos id w) _ _ h ((as-commit id e s).own id s);
      imaged = λ id e s h. all-imaged P w o.world (held w.mem) (counted P k pos id w) h (its-pages id e s);
      abandoned = λ id e s h. own-abandoned (counted P k pos id w) _ _ h ((as-commit id e s).own id s);
      undone = λ id n e. own-undone (counts P k pos c w) c w id n e _ _ (f.own id e);
      others = λ t h n. f.others t (omega (arith, mark-is P w c)) n;
      either = λ p l i. all_either P w o.world (written c w) (counts P k pos c w) f.pages p l (sym (written-pages P w p l c) ∙ i);
      same = λ p l i. all_same P w o.world (written c w) (counts P k pos c w) f.pages p l (sym (written-pages P w p l c) ∙ i);
    }
