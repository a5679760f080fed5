-- The key turns in the middle of a call: power goes inside one of its stores, and the next opening is right. P is the page size. Document 02's words, and where
-- each of them stands below:
--
--   premises as in demand 3                       OpenedWithMeta and BytesIn; of the calls, the cut one among them, AllTyped and NoZeroFlush
--   page 0 touched by no transaction              Cuttable, zero: asked of the transaction that the cut call finds, which is less
--   the cut call's id at or above the mark        Cuttable, above
--   and held Active if it is being committed      Cuttable, active
--   one begin, flush, commit, rollback or advance is cut as Q-5 says, then one opening in Q-6's mode runs to its end
--                                                 KeyTurn: opening_torn of cut_at; any call may stand there, since the others have no store
--   It is accepted.                               Turned, accepted
--   The id being committed is Committed exactly if its commit record was whole in the log at the cut, or that store already lay behind,
--                                                 counted; Turned, committed and abandoned
--   and then every page it had touched and held resident has its image;
--                                                 Turned, imaged
--   if not, it is Aborted.                        Turned, abandoned
--   The id of a cut begin or rollback has its earlier status, Active as Aborted, or is Aborted.
--                                                 Turned, undone
--   Except after Committed, each page but 0 that the call was to write has its earlier bytes or its image, bytes past the file's end counting as zeros.
--                                                 Turned, either: the whole page is one or the other; after Committed it holds too
--   All other ids at or above the mark, the new mark where an advance was cut, are as demand 3 says.
--                                                 Turned, others
--   No page but 0 and those the cut call writes has changed, bytes counted the same way.
--                                                 Turned, same
--
-- The first opening is in Q-6's mode, which on a log without a torn record is the old one; so the statement follows itself: files that a cut left may be its
-- start. Assumes nothing.
use Rattle.std.specs.Prelude.{ℕ, suc, ◌*◌, ◌≤◌, ◌<◌, ◌≡◌, ◌⊎◌, List, [], ◌∷◌, ◌++◌, Bool, true, false, ◌&&◌, ◌||◌, length, ltb, leb, eqb}
use Rattle.fields.specs.declared.TransactionId.{TransactionId}
use Rattle.fields.specs.declared.CommitTime.{CommitTime}
use Rattle.fields.specs.Bytes.{part}
use Rattle.fields.specs.Files.{content}
use Rattle.wal.specs.Records.{commit, encode}
use Rattle.table.specs.declared.Status.{Status}
use Rattle.table.specs.declared.Status.TheVariants.{Active, Committed, Aborted}
use Rattle.std.specs.Prelude.{Option, Some}
use Rattle.table.specs.Entries.{status_of}
use Rattle.frames.specs.Pages.{is_in}
use Rattle.world.specs.declared.Slot.{Slot}
use Rattle.world.specs.declared.Slot.TheVariants.{Installed, Empty}
use Rattle.world.specs.World.{Files, World}
use Rattle.world.specs.Steps.{Step, Log, Page, SetSlot, Compact, Truncate, Reset}
use Rattle.world.specs.Calls.{Call, Install, Uninstall, AllocId, AllocPage, Begin, Read, Write, Flush, Commit, Rollback, Advance, held_page, held, steps, keeps}
use Rattle.world.specs.Refusals.{refuses}
use Rattle.world.specs.Run.{decided, run}
use Rattle.opening.specs.Opening.{Opening}
use Rattle.partway.specs.Partway.{cut_at}
use Rattle.torn.specs.Torn.{opening_torn}
use Rattle.keyoff.specs.KeyOff.{OpenedWithMeta, NoZeroFlush, BytesIn, AllTyped, kept}

-- ---- the call that is cut

-- its id, where it has one
abbrev pub own_id : Call → World → Slot
own_id (Install id ps) w = Empty
own_id Uninstall w = Empty
own_id AllocId w = Empty
own_id AllocPage w = Empty
own_id (Begin id) w = Installed id
own_id (Read p) w = Empty
own_id (Write p bytes) w = Empty
own_id (Flush p) w = Empty
own_id Commit w = w.mem.slot
own_id (Rollback list) w = w.mem.slot
own_id (Advance v) w = Empty

-- the pages that its stores write
unfoldable pub pages_in : List Step → List ℕ
pages_in [] = []
pages_in (Log r ∷ ss) = pages_in ss
pages_in (Page p bytes ∷ ss) = p ∷ pages_in ss
pages_in (SetSlot id s ∷ ss) = pages_in ss
pages_in (Compact w ∷ ss) = pages_in ss
pages_in (Truncate ∷ ss) = pages_in ss
pages_in (Reset ∷ ss) = pages_in ss

-- a commit, cut at (k, pos), counts: its record, the store after its n images, is whole at its last byte, or lies behind. A refused one has no store
unfoldable pub record_whole : ℕ → ℕ → ℕ → ℕ → ℕ → Bool
record_whole id time n k pos = ltb (suc n) k || (eqb k (suc n) && leb (length (encode (commit id time))) pos)

unfoldable pub counted : ℕ → ℕ → ℕ → TransactionId → World → Bool
counted P k pos id w = decided (refuses P Commit w) (record_whole id.0 w.mem.time.0 (length (held w.mem)) k pos) false

-- ---- premises

pub record Cuttable (c : Call) (w : World) : Type 0 where
  pub zero : (id : TransactionId) → w.mem.slot ≡ Installed id → is_in 0 w.mem.touched ≡ false
  pub above : (id : TransactionId) → own_id c w ≡ Installed id → w.mem.mark.0 ≤ id.0
  pub active : (id : TransactionId) → c ≡ Commit → w.mem.slot ≡ Installed id → status_of id.0 w.mem.table ≡ Some Active

-- ---- conclusions

-- the status of an id in a world; and the bytes of a page of its database, those past the file's end as zeros
abbrev pub status_in : World → ℕ → Option Status
status_in w t = status_of t w.mem.table

abbrev pub page_in : ℕ → World → ℕ → List ℕ
page_in P w p = part P (content w.files.db) (p * P)

-- w is the world that the call finds, o the opening after the cut at (k, pos)
pub record Turned (P k pos : ℕ) (c : Call) (w : World) (o : Opening) : Type 0 where
  pub accepted : o.number ≡ 0
  pub committed : (id : TransactionId) → c ≡ Commit → w.mem.slot ≡ Installed id → counted P k pos id w ≡ true →
      (t : CommitTime) × (status_in o.world id.0 ≡ Some (Committed t))
  pub imaged : (id : TransactionId) → c ≡ Commit → w.mem.slot ≡ Installed id → counted P k pos id w ≡ true → (p : ℕ) → is_in p (held w.mem) ≡ true →
      page_in P o.world p ≡ held_page P w p
  pub abandoned : (id : TransactionId) → c ≡ Commit → w.mem.slot ≡ Installed id → counted P k pos id w ≡ false → status_in o.world id.0 ≡ Some Aborted
  pub undone : (id : TransactionId) → (c ≡ Commit → ⊥) → own_id c w ≡ Installed id →
      (status_in o.world id.0 ≡ kept (status_in w id.0)) ⊎ (status_in o.world id.0 ≡ Some Aborted)
  pub others : (t : ℕ) → (keeps P c w).mem.mark.0 ≤ t → (own_id c w ≡ Installed (record { 0 = t }) → ⊥) → status_in o.world t ≡ kept (status_in w t)
  pub either : (p : ℕ) → 0 < p → is_in p (pages_in (steps P c w)) ≡ true → (page_in P o.world p ≡ page_in P w p) ⊎ (page_in P o.world p ≡ held_page P w p)
  pub same : (p : ℕ) → 0 < p → is_in p (pages_in (steps P c w)) ≡ false → page_in P o.world p ≡ page_in P w p

-- ---- the request

abbrev pub KeyTurn : ℕ → Type 0
KeyTurn P =
    (f : Files) (frames : List ℕ) (cs : List Call) (c : Call) (k pos : ℕ) → BytesIn f → OpenedWithMeta P f (opening_torn P f frames) →
    AllTyped (cs ++ (c ∷ [])) → NoZeroFlush P (cs ++ (c ∷ [])) (opening_torn P f frames).world →
    (let w = run P cs (opening_torn P f frames).world in
    Cuttable c w → Turned P k pos c w (opening_torn P (cut_at P k pos c w) w.frames))
