-- From files in the middle of a call to what is found of their opening: the request's conclusions, pages byte by byte. P is the page size. Assumes nothing.
use mathlib.Core.Path.{◌≡◌, sym, ap, ◌∙◌, subst}
use mathlib.Core.Logic.{◌⊎◌}
use mathlib.Core.List.{List}
use mathlib.Core.Bool.{Bool, true, false}
use Prim.Native.Nat.{ℕ, ◌+◌, ◌*◌, ◌≤◌, ◌<◌}
use native.Mathlib.Omega.{arith}
use lib.ListN.{length, get_or}
use Rattle.fields.specs.declared.TransactionId.{TransactionId}
use Rattle.fields.specs.declared.CommitTime.{CommitTime}
use Rattle.fields.specs.Files.{File, room}
use Rattle.fields.proofs.Tests.{Equal, equal, other, equality}
use Rattle.wal.specs.Records.{Record}
use Rattle.table.specs.declared.Status.{Status}
use Rattle.table.specs.declared.Status.TheVariants.{Committed, Aborted}
use Rattle.table.specs.declared.Entry.{Entry}
use Rattle.std.specs.Prelude.{Option, Some, None}
use Rattle.table.specs.Entries.{insert_entry, status_of}
use Rattle.table.proofs.Facts.{set-ascending, status-set, status-kept, absent-not}
use Rattle.frames.specs.Pages.{is_in}
use Rattle.world.specs.declared.Slot.{Slot}
use Rattle.world.specs.declared.Slot.TheVariants.{Installed, Empty}
use Rattle.world.specs.World.{Files, World}
use Rattle.world.specs.Calls.{Call, Install, Uninstall, AllocId, AllocPage, Begin, Read, Write, Flush, Commit, Rollback, Advance, held_page}
use Rattle.opening.specs.Opening.{records, Opening}
use Rattle.opening.proofs.Replays.{imaged_all}
use Rattle.torn.specs.Torn.{opening_torn}
use Rattle.keyoff.specs.KeyOff.{OpenedWithMeta, kept}
use Rattle.keyoff.proofs.Images.{AllRest}
use Rattle.keyoff.proofs.Invariant.{Kept}
use Rattle.keyturn.specs.KeyTurn.{own_id}
use Rattle.keyturn.proofs.Asked.{written, mark_of}
use Rattle.keyturn.proofs.Dbs.{byte_of}
use Rattle.keyturn.proofs.Mid as mid
use Rattle.keyturn.proofs.Mid.{NotOwn, MarkIs, Mid, Bound}

-- ---- pages, by the bytes that the opening leaves

abbrev pub Before : ℕ → ℕ → File → (ℕ → ℕ) → Type 0
Before P p old D = (i : ℕ) → i < P → D (p * P + i) ≡ byte_of old (p * P + i)

abbrev pub Imaged : ℕ → ℕ → List ℕ → (ℕ → ℕ) → Type 0
Imaged P p bs D = (i : ℕ) → i < P → D (p * P + i) ≡ get_or bs i 0

pub data Come (P p : ℕ) (old : File) (bs : List ℕ) (D : ℕ → ℕ) : Type 0 where
  as_before : Before P p old D → Come P p old bs D
  as-image : Imaged P p bs D → Come P p old bs D

-- of the pages ps some have their images, and no other page has changed
pub record Half (P : ℕ) (w : World) (ps : List ℕ) (D : ℕ → ℕ) : Type 0 where
  pub come : (p : ℕ) → 0 < p → is_in p ps ≡ true → Come P p w.files.db (held_page P w p) D
  pub rest : (p : ℕ) → 0 < p → is_in p ps ≡ false → Before P p w.files.db D

-- all of them have
pub record Full (P : ℕ) (w : World) (ps : List ℕ) (D : ℕ → ℕ) : Type 0 where
  pub all : (p : ℕ) → is_in p ps ≡ true → Imaged P p (held_page P w p) D
  pub rest : (p : ℕ) → 0 < p → is_in p ps ≡ false → Before P p w.files.db D

pub full-half : (P : ℕ) (w : World) (ps : List ℕ) (D : ℕ → ℕ) → Full P w ps D → Half P w ps D
full-half P w ps D f = record { come = λ p h i. as-image (f.all p i); rest = f.rest }

abbrev pub PagesBy : Bool → ℕ → World → List ℕ → (ℕ → ℕ) → Type 0
PagesBy true P w ps D = Full P w ps D
PagesBy false P w ps D = Half P w ps D

-- what the opening leaves of the files g with the records rs
abbrev pub left : ℕ → List Record → Files → ℕ → ℕ
left P rs g i = imaged_all P rs i (byte_of g.db i)

-- ---- what is found of one opening

-- the status of the call's own id, before and after; counts says whether its commit counts
abbrev pub OwnStatus : Bool → Call → Option Status → Option Status → Type 0
OwnStatus counts (Install id ps) old new = Unit {0}
OwnStatus counts Uninstall old new = Unit {0}
OwnStatus counts AllocId old new = Unit {0}
OwnStatus counts AllocPage old new = Unit {0}
OwnStatus counts (Begin id) old new = (new ≡ kept old) ⊎ (new ≡ Some Aborted)
OwnStatus counts (Read p) old new = Unit {0}
OwnStatus counts (Write p bytes) old new = Unit {0}
OwnStatus counts (Flush p) old new = Unit {0}
OwnStatus true Commit old new = (t : CommitTime) × (new ≡ Some (Committed t))
OwnStatus false Commit old new = new ≡ Some Aborted
OwnStatus counts (Rollback list) old new = (new ≡ kept old) ⊎ (new ≡ Some Aborted)
OwnStatus counts (Advance v) old new = Unit {0}

pub record Found (P : ℕ) (counts : Bool) (c : Call) (w : World) (new : Opening) : Type 0 where
  pub accepted : new.number ≡ 0
  pub own : (id : TransactionId) → own_id c w ≡ Installed id →
      OwnStatus counts c (status_of id.0 w.mem.table) (status_of id.0 new.world.mem.table)
  pub others : (t : ℕ) → mark_of c w ≤ t → (own_id c w ≡ Installed (record { 0 = t }) → ⊥) →
      status_of t new.world.mem.table ≡ kept (status_of t w.mem.table)
  pub pages : PagesBy counts P w (written c w) (byte_of new.world.files.db)

-- and more: it may start another run; it may itself be cut, since no image is of page 0 and the database has a whole page 0; and the mark is the old one or the
-- one that the call raises it to
pub record Reached (P : ℕ) (counts : Bool) (c : Call) (w : World) (g : Files) : Type 0 where
  pub found : Found P counts c w (opening_torn P g w.frames)
  pub again : OpenedWithMeta P g (opening_torn P g w.frames)
  pub images : AllRest P (room g.db) (records P g.log)
  pub first : P ≤ g.db.len
  pub mark : MarkIs w (mark_of c w) (opening_torn P g w.frames).world.mem.mark.0

-- what is said of the bytes D is said of those that are equal to them
half-same : (P : ℕ) (w : World) (ps : List ℕ) (D E : ℕ → ℕ) → ((i : ℕ) → E i ≡ D i) → Half P w ps D → Half P w ps E
half-same P w ps D E e h = record { come = λ p l i. go p (h.come p l i); rest = λ p l i j k. e (p * P + j) ∙ h.rest p l i j k }
  where
    go : (p : ℕ) → Come P p w.files.db (held_page P w p) D → Come P p w.files.db (held_page P w p) E
    go p (as_before b) = as_before (λ i l. e (p * P + i) ∙ b i l)
    go p (as-image b) = as-image (λ i l. e (p * P + i) ∙ b i l)

by-same : (b : Bool) (P : ℕ) (w : World) (ps : List ℕ) (D E : ℕ → ℕ) → ((i : ℕ) → E i ≡ D i) → PagesBy b P w ps D → PagesBy b P w ps E
by-same true P w ps D E e f =
    record { all = λ p h i l. e (p * P + i) ∙ f.all p h i l; rest = λ p l i j k. e (p * P + j) ∙ f.rest p l i j k }
by-same false P w ps D E e h = half-same P w ps D E e h

module _ (P : ℕ) (big : 36 ≤ P) (w : World) (v : Kept P w) (c : Call) (counts : Bool) (own : Slot) (rs : List Record) (g : Files)
    (higher : w.mem.mark.0 ≤ mark_of c w) (m : Mid P w own (mark_of c w) rs g) (table : List Entry) (bound : Bound w own table)
    (fewer : (t : ℕ) → NotOwn (own_id c w) t → NotOwn own t) where
  abbrev new : Opening
  new = opening_torn P g w.frames

  status-is : (t : ℕ) → status_of t new.world.mem.table ≡ mid.found rs g.clog t
  status-is = mid.status P big w v own (mark_of c w) higher rs g m table bound

  byte-is : (i : ℕ) → byte_of new.world.files.db i ≡ left P rs g i
  byte-is = mid.bytes P big w v own (mark_of c w) higher rs g m table bound

  said : ((id : TransactionId) → own_id c w ≡ Installed id → OwnStatus counts c (status_of id.0 w.mem.table) (mid.found rs g.clog id.0)) →
      PagesBy counts P w (written c w) (left P rs g) → Found P counts c w (opening_torn P g w.frames)
  said o p = record {
    accepted = mid.accepted P big w v own (mark_of c w) higher rs g m table bound;
    own = λ id e. subst (λ (k : Option Status). OwnStatus counts c (status_of id.0 w.mem.table) k) (sym (status-is id.0)) (o id e);
    others = λ t h n. status-is t ∙ mid.others P big w v own (mark_of c w) higher rs g m table bound t (fewer t n) h;
    pages = by-same counts P w (written c w) (left P rs g) (byte_of new.world.files.db) byte-is p;
  }

  pub build : ((id : TransactionId) → own_id c w ≡ Installed id → OwnStatus counts c (status_of id.0 w.mem.table) (mid.found rs g.clog id.0)) →
      PagesBy counts P w (written c w) (left P rs g) → Reached P counts c w g
  build o p = record {
    found = said o p;
    again = mid.again P big w v own (mark_of c w) higher rs g m table bound;
    images = mid.no-first P big w v own (mark_of c w) higher rs g m table bound;
    first = mid.first-whole P big w v own (mark_of c w) higher rs g m table bound;
    mark = mid.mark-is P big w v own (mark_of c w) higher rs g m table bound;
  }

-- ---- bounds

pub never : (id : TransactionId) → Empty ≡ Installed id → ⊥
never id e = let z : ◌≡◌ {A = ℕ} 0 1 = cc in omega arith

pub no_own : (t : ℕ) → NotOwn Empty t
no_own t e = never (record { 0 = t }) e

-- the world's own table, where no id changes
pub bound-same : (P : ℕ) (w : World) → Kept P w → Bound w Empty w.mem.table
bound-same P w v = record { sorted = v.sorted; few = v.few; covers = λ t h. (no_own t, h) }

-- with the call's id set
pub bound-set : (P : ℕ) (w : World) (id : TransactionId) (s : Status) → Kept P w → length (insert_entry (record { id = id; status = s }) w.mem.table) ≤ 256 →
    Bound w (Installed id) (insert_entry (record { id = id; status = s }) w.mem.table)
bound-set P w id s v few = record {
  sorted = set-ascending (record { id = id; status = s }) w.mem.table v.sorted;
  few = few;
  covers = λ t h. go t (equality id.0 t) h;
}
  where
    unslot : Slot → ℕ
    unslot (Installed i) = i.0
    unslot Empty = 0

    go : (t : ℕ) → Equal id.0 t → status_of t (insert_entry (record { id = id; status = s }) w.mem.table) ≡ None →
        NotOwn (Installed id) t × (status_of t w.mem.table ≡ None)
    go t (equal p) h =
        let q : status_of id.0 (insert_entry (record { id = id; status = s }) w.mem.table) ≡ None =
        subst (λ (j : ℕ). status_of j (insert_entry (record { id = id; status = s }) w.mem.table) ≡ None) (sym p) h in
        absurd (absent-not _ s q (status-set (record { id = id; status = s }) w.mem.table))
    go t (other n) h = ((λ q. n (ap unslot q)), sym (status-kept (record { id = id; status = s }) w.mem.table t n) ∙ h)
