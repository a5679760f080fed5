-- Files in the middle of a call, told against the world that the call found; they are opened, and what the opening finds. P is the page size. Assumes nothing.
use mathlib.Core.Path.{◌≡◌, refl, ◌∙◌}
use mathlib.Core.List.{List, map}
use mathlib.Core.Bool.{true, false}
use Prim.Native.Nat.{ℕ, ◌≤◌}
use native.Mathlib.Omega.{arith}
use lib.ListN.{length}
use Rattle.fields.specs.Files.{File, content, room}
use Rattle.fields.proofs.FileLaws.{fit-ok}
use Rattle.wal.specs.Records.{Record}
use Rattle.table.specs.declared.Status.{Status}
use Rattle.table.specs.declared.Entry.{Entry}
use Rattle.std.specs.Prelude.{Option, Some, None}
use Rattle.table.specs.Entries.{ascending, status_of}
use Rattle.table.proofs.Facts.{or_known, settled_known, within}
use Rattle.clog.proofs.TableLaws.{valid-long}
use Rattle.meta.specs.Page.{has_meta}
use Rattle.meta.proofs.Laws.{format-good}
use Rattle.world.specs.declared.Slot.{Slot}
use Rattle.world.specs.declared.Slot.TheVariants.{Installed}
use Rattle.world.specs.World.{Files, World}
use Rattle.world.specs.Refusals.{any_of}
use Rattle.opening.specs.Opening.{records, replay, replayed, statuses, past_clog, full_table, with_meta}
use Rattle.opening.proofs.Tables.{last_word, clog-word, full-ascending, full-by-word}
use Rattle.opening.proofs.Formed.{Passed}
use Rattle.opening.proofs.Replays.{imaged_all}
use Rattle.torn.specs.Torn.{torn_no, opening_torn}
use Rattle.torn.proofs.Laws.{torn-number, torn-passed, torn-meta}
use Rattle.keyoff.specs.KeyOff.{OpenedWithMeta, kept}
use Rattle.keyoff.proofs.Images.{AllRest, all_room}
use Rattle.keyoff.proofs.Page.{Stands, stands-whole}
use Rattle.keyoff.proofs.Invariant.{Kept}
use Rattle.keyoff.proofs.Reopen.{joined-kept}
use Rattle.keyturn.proofs.Logs.{LogIs}
use Rattle.keyturn.proofs.Clogs.{ClogIs, loads, Quiet, same, gone}
use Rattle.keyturn.proofs.Dbs.{byte_of, replay-bytes, replay-stands}

-- an id that is not the cut call's own
abbrev pub NotOwn : Slot → ℕ → Type 0
NotOwn own t = own ≡ Installed (record { 0 = t }) → ⊥

-- a mark that is the world's, or the one that an advance raises it to
pub data MarkIs (w : World) (above mark : ℕ) : Type 0 where
  old : mark ≡ w.mem.mark.0 → MarkIs w above mark
  raised : mark ≡ above → MarkIs w above mark

-- rs is what the log holds. Of ids that are not the call's own the log says what it said or nothing, and their slots from a mark on are as they were, below it so
-- or gone
pub record Mid (P : ℕ) (w : World) (own : Slot) (above : ℕ) (rs : List Record) (g : Files) : Type 0 where
  pub log : LogIs P g.log rs
  pub rest : AllRest P (room g.db) rs
  pub ids : any_of (map (past_clog (room g.clog)) (statuses rs)) ≡ false
  pub words : (t : ℕ) → NotOwn own t → Quiet (last_word t (records P w.files.log)) (last_word t rs)
  pub db-size : room g.db ≤ 16777216
  pub db-fits : g.db.len ≤ room g.db
  pub mark : ℕ
  pub page : Stands P (content g.db) mark
  pub among : MarkIs w above mark
  pub clog : ClogIs g.clog
  pub high : (t : ℕ) → NotOwn own t → above ≤ t → loads g.clog t ≡ loads w.files.clog t
  pub slots : (t : ℕ) → NotOwn own t → Quiet (loads w.files.clog t) (loads g.clog t)

-- a table that has all ids of the world's and the call's own: so many fit
pub record Bound (w : World) (own : Slot) (table : List Entry) : Type 0 where
  pub sorted : ascending table ≡ true
  pub few : length table ≤ 256
  pub covers : (t : ℕ) → status_of t table ≡ None → NotOwn own t × (status_of t w.mem.table ≡ None)

-- what is found of an id: the log's word, else the slot's
abbrev pub found : List Record → File → ℕ → Option Status
found rs clog t = or_known (settled_known (last_word t rs)) (loads clog t)

-- ---- one id: the log's word, what the slot loads as, and the status held

calm : (l0 l c0 c h : Option Status) → Quiet l0 l → Quiet c0 c → ((s : Status) → l0 ≡ Some s → h ≡ None → ⊥) → (h ≡ None → c0 ≡ None) → h ≡ None →
    or_known (settled_known l) c ≡ None
calm l0 l c0 c h lq cq a b e = rw (word lq, slot cq)
  where
    old : (x : Option Status) → l0 ≡ x → x ≡ None
    old (Some s) q = absurd (a s q e)
    old None q = refl

    word : Quiet l0 l → l ≡ None
    word (same q) = q ∙ old l0 refl
    word (gone q) = q

    slot : Quiet c0 c → c ≡ None
    slot (same q) = q ∙ b e
    slot (gone q) = q

module _ (P : ℕ) (big : 36 ≤ P) (w : World) (v : Kept P w) (own : Slot) (above : ℕ) (higher : w.mem.mark.0 ≤ above) (rs : List Record) (g : Files)
    (m : Mid P w own above rs g) (table : List Entry) (bound : Bound w own table) where
  full-found : (t : ℕ) → status_of t (full_table P g) ≡ found rs g.clog t
  full-found t = full-by-word P g t ∙ rw (clog-word g.clog t, m.clog.valid, m.log.recs)

  -- others are as they were
  pub others : (t : ℕ) → NotOwn own t → above ≤ t → found rs g.clog t ≡ kept (status_of t w.mem.table)
  others t n h = go (m.words t n)
    where
      go : Quiet (last_word t (records P w.files.log)) (last_word t rs) → found rs g.clog t ≡ kept (status_of t w.mem.table)
      go (same e) =
          rw (e, m.high t n h)
          (joined-kept (last_word t (records P w.files.log)) _ (status_of t w.mem.table) (v.marks.untimed t) (v.marks.last t (omega arith))
          (v.marks.slots t (omega arith)))
      go (gone e) = rw (e, m.high t n h) (v.marks.slots t (omega arith))

  -- none appears
  none_more : (t : ℕ) → status_of t table ≡ None → status_of t (full_table P g) ≡ None
  none_more t h =
      let b = bound.covers t h in
      full-found t ∙ calm _ _ _ _ (status_of t w.mem.table) (m.words t b.0) (m.slots t b.0) (v.marks.logged t) (v.marks.slotted t) b.1

  few : length (full_table P g) ≤ 256
  few = omega (arith, within (full_table P g) table (full-ascending P g) bound.sorted none_more, bound.few)

  -- ---- the number

  passes : Passed P g w.frames
  passes = record {
    log-size = m.log.size;
    log-len = m.log.fits;
    db-size = m.db-size;
    db-len = m.db-fits;
    clog-size = m.clog.size;
    clog-len = m.clog.fits;
    one-frame = v.one-frame;
    format = format-good P g.db (fit-ok _ _ _ m.db-size m.db-fits) m.page.has m.page.good;
    log-room = m.log.head;
    images = rw m.log.recs (all_room P (room g.db) (room g.db) (omega arith) rs m.rest);
    clog-room = omega (arith, valid-long g.clog m.clog.valid, m.clog.fits);
    ids = rw m.log.recs m.ids;
    entries = few;
  }

  number : torn_no P g w.frames ≡ 0
  number = torn-passed P g w.frames passes m.log.tail

  -- ---- the world

  replayed-is : replayed P g ≡ replay P rs g.db
  unfolding replayed
  replayed-is = rw m.log.recs

  stands : Stands P (content (replayed P g)) m.mark
  stands = rw replayed-is (replay-stands P big rs g.db m.mark m.rest m.db-fits m.page)

  has-meta : has_meta P (content (replayed P g)) ≡ true
  has-meta = stands.has

  opens : (opening_torn P g w.frames).world ≡ with_meta P g w.frames
  opens = torn-meta P g w.frames number has-meta

  pub accepted : (opening_torn P g w.frames).number ≡ 0
  accepted = torn-number P g w.frames ∙ number

  -- the files may be the start of another run
  pub again : OpenedWithMeta P g (opening_torn P g w.frames)
  again = record { accepted = accepted; meta = has-meta; version = stands.good }

  -- as Q-11 asks of an opening that may be cut: no image is of page 0, and the database has a whole page 0
  pub no-first : AllRest P (room g.db) (records P g.log)
  no-first = rw m.log.recs m.rest

  pub first-whole : P ≤ g.db.len
  first-whole = stands-whole P g.db m.mark m.db-fits m.page

  pub mark-is : MarkIs w above (opening_torn P g w.frames).world.mem.mark.0
  unfolding with_meta
  mark-is = rw (opens, stands.stored) m.among

  pub status : (t : ℕ) → status_of t (opening_torn P g w.frames).world.mem.table ≡ found rs g.clog t
  unfolding with_meta
  status t = rw opens (full-found t)

  pub bytes : (i : ℕ) → byte_of (opening_torn P g w.frames).world.files.db i ≡ imaged_all P rs i (byte_of g.db i)
  unfolding with_meta
  bytes i = rw (opens, replayed-is) (replay-bytes P rs g.db m.rest m.db-fits i)
