-- Files that meet the invariant are opened, and the opening finds what the table holds. P is the page size. Assumes nothing.
use mathlib.Core.Path.{◌≡◌, refl, ap, ◌∙◌}
use mathlib.Core.List.{List}
use mathlib.Core.Bool.{true}
use Prim.Native.Nat.{ℕ, ◌≤◌}
use native.Mathlib.Omega.{arith}
use lib.ListN.{length, length-take}
use Rattle.table.proofs.Facts.{or_known, settled_known, within}
use Rattle.fields.specs.declared.CommitTime.{CommitTime}
use Rattle.fields.specs.Files.{content, room}
use Rattle.fields.proofs.FileLaws.{fit-ok}
use Rattle.wal.specs.Records.{Ending, ending_no}
use Rattle.table.specs.declared.Status.{Status}
use Rattle.table.specs.declared.Status.TheVariants.{Active, Committed, Aborted}
use Rattle.table.specs.declared.Entry.{Entry}
use Rattle.std.specs.Prelude.{Option, Some, None}
use Rattle.table.specs.Entries.{status_of}
use Rattle.clog.specs.Slots.{slot_of}
use Rattle.clog.proofs.TableLaws.{known_as, valid-long}
use Rattle.meta.specs.Page.{has_meta}
use Rattle.meta.proofs.Laws.{format-good}
use Rattle.world.specs.World.{Files, World}
use Rattle.opening.specs.Opening.{records, end_no, replayed, full_table, open_no, with_meta, Opening, opening}
use Rattle.opening.proofs.Laws.{accepted, world-meta}
use Rattle.opening.proofs.Tables.{last_word, clog-word, full-ascending, full-by-word}
use Rattle.opening.proofs.LogFiles.{reads-long}
use Rattle.opening.proofs.Formed.{Passed, by-passed, next-above}
use Rattle.keyoff.specs.KeyOff.{kept, reopened, Reopens}
use Rattle.keyoff.proofs.Images.{all_room, replay-same}
use Rattle.keyoff.proofs.Invariant.{Inv, Kept}

-- ---- one id: the log's word l, what the slot loads as, and the status held

-- where the log has no word the slot gives it; else its word is the status held, and that is no commit
pub joined-kept : (l c h : Option Status) → ((u : CommitTime) → l ≡ Some (Committed u) → ⊥) → ((s : Status) → l ≡ Some s → h ≡ Some s) → c ≡ kept h →
    or_known (settled_known l) c ≡ kept h
joined-kept None c h u w e = e
joined-kept (Some Active) c h u w e = rw (w Active refl)
joined-kept (Some (Committed t)) c h u w e = absurd (u t refl)
joined-kept (Some Aborted) c h u w e = rw (w Aborted refl)

-- and an id that is not held is in neither
pub joined-none : (l c h : Option Status) → ((s : Status) → l ≡ Some s → h ≡ None → ⊥) → (h ≡ None → c ≡ None) → h ≡ None → or_known (settled_known l) c ≡ None
joined-none None c h u w e = w e
joined-none (Some s) c h u w e = absurd (u s refl e)

module _ (P : ℕ) (big : 36 ≤ P) (f : Files) (frames : List ℕ) (table : List Entry) (mark : ℕ) (v : Inv P f (length frames) table mark) where
  -- ---- the table

  found : (t : ℕ) → status_of t (full_table P f) ≡ or_known (settled_known (last_word t (records P f.log))) (known_as (slot_of 8 (content f.clog) t))
  found t = full-by-word P f t ∙ rw (clog-word f.clog t, v.valid)

  same : (t : ℕ) → mark ≤ t → status_of t (full_table P f) ≡ kept (status_of t table)
  same t h = found t ∙ joined-kept (last_word t (records P f.log)) _ (status_of t table) (v.marks.untimed t) (v.marks.last t h) (v.marks.slots t h)

  no_more : (t : ℕ) → status_of t table ≡ None → status_of t (full_table P f) ≡ None
  no_more t h = found t ∙ joined-none (last_word t (records P f.log)) _ (status_of t table) (v.marks.logged t) (v.marks.slotted t) h

  full-few : length (full_table P f) ≤ 256
  full-few = omega (arith, within (full_table P f) table (full-ascending P f) v.sorted no_more, v.few)

  -- ---- the database

  replayed-same : replayed P f ≡ f.db
  unfolding replayed
  replayed-same = replay-same P (records P f.log) f.db v.rest v.db-len v.agrees

  has-meta : has_meta P (content (replayed P f)) ≡ true
  has-meta = rw replayed-same v.page.has

  -- ---- the number

  passes : Passed P f frames
  passes = record {
    log-size = v.log-size;
    log-len = v.log-len;
    db-size = v.db-size;
    db-len = v.db-len;
    clog-size = v.clog-size;
    clog-len = v.clog-len;
    one-frame = v.one-frame;
    format = format-good P f.db (fit-ok _ _ _ v.db-size v.db-len) v.page.has v.page.good;
    log-room = omega (arith, reads-long P f.log v.reads, length-take f.log.len f.log.bytes);
    images = all_room P f.db.len (room f.db) v.db-len (records P f.log) v.rest;
    clog-room = omega (arith, valid-long f.clog v.valid, v.clog-len);
    ids = v.ids;
    entries = full-few;
  }

  number : open_no P f frames ≡ 0
  unfolding open_no
  number = by-passed P (end_no P f.log) f frames passes ∙ ap (λ (e : Ending). ending_no e) v.reads.whole

  opens : (opening P f frames).world ≡ with_meta P f frames
  opens = ap (λ (o : Opening). o.world) (accepted P f frames number) ∙ world-meta P f frames has-meta

pub reopens : (P : ℕ) → 36 ≤ P → (w : World) → Kept P w → Reopens P w
unfolding with_meta opening
reopens P big w v =
    let f = w.files in
    let table = w.mem.table in
    let mark = w.mem.mark.0 in
    let e : reopened P w ≡ with_meta P w.files w.frames = opens P big f w.frames table mark v in
    record {
      accepted = number P big f w.frames table mark v;
      statuses = λ t h. rw e (same P big f w.frames table mark v t h);
      mark = rw (e, replayed-same P big f w.frames table mark v, v.page.stored);
      database = rw e (replayed-same P big f w.frames table mark v);
      next = rw e (unfold with_meta in next-above P f w.frames (passes P big f w.frames table mark v));
    }
