-- What an accepted opening has passed, and what follows of the world that it leaves, over the page size P: it is in form, so that no call on it gives 1 or 14;
-- and with a meta page the clog file that is left says what the table says. Assumes nothing.
use mathlib.Core.Path.{◌≡◌, refl, sym, ◌∙◌}
use mathlib.Core.List.{List, [], ◌∷◌, ◌++◌, map}
use mathlib.Core.Bool.{Bool, true, false, cond, ◌||◌}
use Prim.Native.Nat.{ℕ, ◌+◌, ◌-◌, ◌/◌, ◌≤◌, ◌<◌}
use native.Mathlib.Omega.{arith}
use lib.Dec.{eqb, lit<}
use lib.ListN.{length}
use borrow.Author.Tests.{le-ltb, ltb-false, leb-false}
use Rattle.table.proofs.Facts.{or_known, settled_known, absent-not, no-status, under-largest, largest-under}
use Rattle.sorted.specs.Sorted.{ascending_by}
use Rattle.fields.specs.Files.{File, content, room, header}
use Rattle.fields.proofs.Tests.{Equal, equal, other, equality, passed, neither}
use Rattle.fields.proofs.FileLaws.{header-room, header-len, header-content, fit-means, fit-ok}
use Rattle.wal.specs.Records.{log_magic, Record, image, begin, commit, abort, checkpoint}
use Rattle.table.specs.declared.Status.{Status}
use Rattle.table.specs.declared.Status.TheVariants.{Committed, Aborted}
use Rattle.table.specs.declared.Entry.{Entry}
use Rattle.std.specs.Prelude.{Option, Some, None}
use Rattle.table.specs.Entries.{id_of, ascending, status_of, largest_id}
use Rattle.clog.specs.Slots.{clog_magic, code_of, slot_of, valid_clog, open_clog, record_all, loaded_status, settled}
use Rattle.clog.proofs.SlotLaws.{slot-within, slot-magic, settled-room, settled-len, settled-header}
use Rattle.clog.proofs.TableLaws.{known_as, code_or_else, AllFit, fit-by-status, Recorded, record-all, slots-plain, load-status-plain, settled-entries, open_kept, open-reset, open-room, open-valid, valid-long, valid_same}
use Rattle.meta.specs.Page.{has_meta, format_no}
use Rattle.frames.specs.Pages.{distinct, any_bad}
use Rattle.world.proofs.CallLaws.{both_zero}
use Rattle.world.specs.World.{Files, World}
use Rattle.world.specs.Refusals.{any_of, bad_buffers, front_no}
use Rattle.world.proofs.FormLaws.{InForm, none_of, form-front}
use Rattle.opening.specs.Opening.{records, end_no, replayed, noted, statuses, log_table, clog_table, full_table, past_db, past_clog, open_room_no, number_by, open_no, with_meta, without_meta, opened_world}
use Rattle.opening.proofs.Laws.{world-meta}
use Rattle.opening.proofs.Replays.{replay-room, replay-fits}
use Rattle.opening.proofs.Tables.{last_word, other_word, log-ascending, log-word, clog-word, full-ascending, full-word, full-by-word, log-within}

-- ---- every id that the log's table has fits the clog's buffer

noted-fits : (k size : ℕ) (e : Entry) (s : Status) → past_clog size e ≡ false → status_of k (e ∷ []) ≡ Some s → 8 + k / 4 < size
noted-fits k size e s b h = go (equality (id_of e) k)
  where
    go : Equal (id_of e) k → 8 + k / 4 < size
    go (equal p) = let l : 8 + id_of e / 4 < size = leb-false _ _ b in rw p at l
    go (other n) = absurd (absent-not _ s (other_word k e n) h)

-- of a record and what follows it: the record's own id fits, and so do the others
first_fits : (k size : ℕ) (r : Record) (l : List Entry) → any_of (map (past_clog size) (noted r ++ l)) ≡ false →
    ((s : Status) → status_of k (noted r) ≡ Some s → 8 + k / 4 < size) × (any_of (map (past_clog size) l) ≡ false)
unfolding any_of
first_fits k size r l b = go r b
  where
    one : (e : Entry) → (past_clog size e || any_of (map (past_clog size) l)) ≡ false →
        ((s : Status) → status_of k (e ∷ []) ≡ Some s → 8 + k / 4 < size) × (any_of (map (past_clog size) l) ≡ false)
    one e b = let d = neither (past_clog size e) _ b in ((λ s h. noted-fits k size e s d.0 h), d.1)

    none : any_of (map (past_clog size) l) ≡ false →
        ((s : Status) → status_of k [] ≡ Some s → 8 + k / 4 < size) × (any_of (map (past_clog size) l) ≡ false)
    none b = ((λ s h. absurd (absent-not _ s (no-status k) h)), b)

    go : (r : Record) → any_of (map (past_clog size) (noted r ++ l)) ≡ false →
        ((s : Status) → status_of k (noted r) ≡ Some s → 8 + k / 4 < size) × (any_of (map (past_clog size) l) ≡ false)
    go (image page bytes) b = none b
    go (begin id) b = one _ b
    go (commit id time) b = one _ b
    go (abort id) b = one _ b
    go checkpoint b = none b

pub word_fits : (k size : ℕ) (rs : List Record) (s : Status) → any_of (map (past_clog size) (statuses rs)) ≡ false → last_word k rs ≡ Some s → 8 + k / 4 < size
unfolding statuses last_word
word_fits k size [] s b h = absurd (absent-not _ s refl h)
word_fits k size (r ∷ rs) s b h =
    let d = first_fits k size r (statuses rs) b in
    go (last_word k rs) refl h d.0 (λ t. word_fits k size rs t d.1)
  where
    go : (w : Option Status) → last_word k rs ≡ w → or_known w (status_of k (noted r)) ≡ Some s → ((t : Status) → status_of k (noted r) ≡ Some t → 8 + k / 4 < size) →
        ((t : Status) → last_word k rs ≡ Some t → 8 + k / 4 < size) → 8 + k / 4 < size
    go (Some t) q h f g = g t q
    go None q h f g = f s h

settled_is : (w : Option Status) (s : Status) → settled_known w ≡ Some s → (t : Status) × (w ≡ Some t)
settled_is (Some t) s h = (t, refl)
settled_is None s h = absurd (absent-not _ s refl h)

-- ---- what an accepted opening has passed, the log's ending aside

pub record Passed (P : ℕ) (f : Files) (frames : List ℕ) : Type 0 where
  pub log-size : room f.log ≤ 16777216
  pub log-len : f.log.len ≤ room f.log
  pub db-size : room f.db ≤ 16777216
  pub db-len : f.db.len ≤ room f.db
  pub clog-size : room f.clog ≤ 1048576
  pub clog-len : f.clog.len ≤ room f.clog
  pub one-frame : P ≤ length frames
  pub format : format_no P f.db ≡ 0
  pub log-room : 8 ≤ room f.log
  pub images : any_of (map (past_db P (room f.db)) (records P f.log)) ≡ false
  pub clog-room : 8 ≤ room f.clog
  pub ids : any_of (map (past_clog (room f.clog)) (statuses (records P f.log))) ≡ false
  pub entries : length (full_table P f) ≤ 256

-- end is the number of the log's ending
module _ (P end : ℕ) (f : Files) (frames : List ℕ) where
  pub by-means : number_by P end f frames ≡ 0 → Passed P f frames × (end ≡ 0)
  unfolding open_room_no bad_buffers
  by-means ok =
      let a = passed _ 1 _ (lit< tt) ok in
      let l = fit-means _ _ _ (none_of _ 0 a.0) in
      let d = fit-means _ _ _ (none_of _ 1 a.0) in
      let c = fit-means _ _ _ (none_of _ 2 a.0) in
      let v = both_zero _ _ a.1 in
      let r = both_zero _ _ v.1 in
      let g = passed _ 4 _ (lit< tt) r.0 in
      let i = passed _ 5 _ (lit< tt) g.1 in
      let s = passed _ 6 _ (lit< tt) i.1 in
      let n = neither _ _ s.0 in
      let t = passed _ 7 _ (lit< tt) s.1 in (
        record {
          log-size = l.0;
          log-len = l.1;
          db-size = d.0;
          db-len = d.1;
          clog-size = c.0;
          clog-len = c.1;
          one-frame = ltb-false _ _ (none_of _ 3 a.0);
          format = v.0;
          log-room = ltb-false _ _ g.0;
          images = i.0;
          clog-room = ltb-false _ _ n.0;
          ids = n.1;
          entries = ltb-false _ _ t.0;
        },
        r.1,
      )

  -- and where it is passed the ending decides
  pub by-passed : Passed P f frames → number_by P end f frames ≡ end
  unfolding open_room_no bad_buffers any_of
  by-passed p =
      rw (
        fit-ok _ _ _ p.log-size p.log-len,
        fit-ok _ _ _ p.db-size p.db-len,
        fit-ok _ _ _ p.clog-size p.clog-len,
        le-ltb _ _ p.one-frame,
        p.format,
        le-ltb _ _ p.log-room,
        p.images,
        le-ltb _ _ p.clog-room,
        p.ids,
        le-ltb _ _ p.entries,
      )

pub no-means : (P : ℕ) (f : Files) (frames : List ℕ) → open_no P f frames ≡ 0 → Passed P f frames
unfolding open_no
no-means P f frames ok = (by-means P (end_no P f.log) f frames ok).0

-- ---- every id in the table fits the clog's buffer, and is below the next id

module _ (P : ℕ) (f : Files) (frames : List ℕ) (p : Passed P f frames) where
  -- an id in a valid clog lies within it
  clog-fits : (t : ℕ) (s : Status) → status_of t (clog_table f.clog) ≡ Some s → 8 + t / 4 < room f.clog
  clog-fits t s h = go (valid_clog f.clog) refl
    where
      go : (x : Bool) → valid_clog f.clog ≡ x → 8 + t / 4 < room f.clog
      go false v = absurd (absent-not _ s (clog-word f.clog t ∙ rw v) h)
      go true v =
          let k : known_as (slot_of 8 (content f.clog) t) ≡ Some s = sym (clog-word f.clog t ∙ rw v) ∙ h in
          omega (arith, slot-within 8 t f.clog (λ z. absent-not _ s (rw z) k), p.clog-len)

  pub full-fits : (t : ℕ) (s : Status) → status_of t (full_table P f) ≡ Some s → 8 + t / 4 < room f.clog
  full-fits t s h = go (last_word t (records P f.log)) refl
    where
      go : (w : Option Status) → last_word t (records P f.log) ≡ w → 8 + t / 4 < room f.clog
      go (Some u) e = word_fits t (room f.clog) (records P f.log) u p.ids e
      go None e = clog-fits t s (sym (rw e at (full-by-word P f t)) ∙ h)

  pub next-above : (t : ℕ) (s : Status) → status_of t (full_table P f) ≡ Some s → t < (with_meta P f frames).mem.next.0
  unfolding with_meta
  next-above t s h =
      let fit : (k : ℕ) (u : Status) → status_of k (full_table P f) ≡ Some u → k < 4194304 = λ k u e. omega (arith, full-fits k u e, p.clog-size) in
      let a : t ≤ largest_id (full_table P f) = under-largest t (full_table P f) s h in
      let b : largest_id (full_table P f) < 4194304 = largest-under 4194304 (full_table P f) (lit< tt) (full-ascending P f) fit in
      omega arith

-- ---- the clog, opened and recorded

magic-long : length clog_magic ≡ 8
unfolding clog_magic
magic-long = refl

pub open-fits : (clog : File) → clog.len ≤ room clog → 8 ≤ room clog → ((open_clog clog).len ≤ room (open_clog clog)) × (8 ≤ (open_clog clog).len)
open-fits clog h l = go (valid_clog clog) refl
  where
    go : (x : Bool) → valid_clog clog ≡ x → ((open_clog clog).len ≤ room (open_clog clog)) × (8 ≤ (open_clog clog).len)
    go true v = rw (open_kept clog v) (h, valid-long clog v)
    go false v =
        let n : (header clog_magic clog).len ≡ 8 = header-len clog_magic clog ∙ magic-long in
        rw (open-reset clog v) (omega (arith, header-room clog_magic clog), omega arith)

-- opened, its slots are what the clog's table says
open-word : (clog : File) → 8 ≤ room clog → (k : ℕ) → status_of k (clog_table clog) ≡ known_as (slot_of 8 (content (open_clog clog)) k)
open-word clog l k = go (valid_clog clog) refl
  where
    go : (x : Bool) → valid_clog clog ≡ x → status_of k (clog_table clog) ≡ known_as (slot_of 8 (content (open_clog clog)) k)
    go true v = clog-word clog k ∙ rw (v, open_kept clog v)
    go false v = clog-word clog k ∙ rw (v, open-reset clog v, header-content clog_magic clog (rw magic-long l), slot-magic k)

-- what a status becomes in the clog and back: Active is Aborted, times are 0
abbrev pub kept : Option Status → Option Status
kept (Some s) = known_as (code_of s)
kept None = None

-- what was loaded once is kept
kept-known : (c : ℕ) → kept (known_as c) ≡ known_as c
unfolding loaded_status
kept-known c = go (eqb c 0) (eqb c 2)
  where
    go : (x y : Bool) →
        kept (cond x None (Some (cond y (Committed (record { 0 = 0 })) Aborted))) ≡ cond x None (Some (cond y (Committed (record { 0 = 0 })) Aborted))
    go true y = refl
    go false true = refl
    go false false = refl

module _ (P : ℕ) (f : Files) (frames : List ℕ) (p : Passed P f frames) where
  pub ids-fit : AllFit 8 0 (room f.clog) (log_table P f.log)
  ids-fit =
      fit-by-status 8 0 (room f.clog) (log_table P f.log) (log-ascending P f.log) (λ id s h.
      let w = settled_is (last_word id (records P f.log)) s (sym (log-word P f.log id) ∙ h) in
      let e : id - 0 ≡ id = omega arith in
      (omega arith, rw e (word_fits id (room f.clog) (records P f.log) w.0 p.ids w.1)))

  left : Recorded 8 0 (log_table P f.log) (settled 8 (open_clog f.clog)) (record_all 8 0 (log_table P f.log) (settled 8 (open_clog f.clog)))
  left =
      let o = open-fits f.clog p.clog-len p.clog-room in
      let r : room (settled 8 (open_clog f.clog)) ≡ room f.clog = settled-room 8 (open_clog f.clog) ∙ open-room f.clog in
      let n = settled-len 8 (open_clog f.clog) in
      record-all 8 0 (log_table P f.log) (settled 8 (open_clog f.clog)) (omega (arith, o.0, settled-room 8 (open_clog f.clog))) (omega (arith, o.1))
      (rw r ids-fit)

  -- ---- the world is in form

  log-left : ((header log_magic f.log).len ≡ 8) × (room (header log_magic f.log) ≡ room f.log)
  log-left = let n : length log_magic ≡ 8 = unfold log_magic in refl in (header-len log_magic f.log ∙ n, header-room log_magic f.log)

  clog-reset : ((header clog_magic f.clog).len ≡ 8) × (room (header clog_magic f.clog) ≡ room f.clog)
  clog-reset = (header-len clog_magic f.clog ∙ magic-long, header-room clog_magic f.clog)

  db-left : (room (replayed P f) ≡ room f.db) × ((replayed P f).len ≤ room f.db)
  unfolding replayed
  db-left =
      (replay-room P (records P f.log) f.db, replay-fits P (records P f.log) f.db p.images p.db-len)

  -- a clog file that fits, and a table, make a world in form
  formed : (clog : File) (table : List Entry) (w : World) →
      w.files ≡ record { log = header log_magic f.log; db = replayed P f; clog = clog } → w.frames ≡ frames →
      (w.mem.table ≡ table) × (w.mem.resident ≡ []) × (w.mem.touched ≡ []) → room clog ≡ room f.clog → clog.len ≤ room clog → 8 ≤ clog.len →
      length table ≤ 256 → ascending table ≡ true → InForm P w
  unfolding ascending_by distinct any_bad
  formed clog table w e h m r c l n t =
      record {
        log-size = rw (e, log-left.1) p.log-size;
        log-len = rw (e, log-left.0, log-left.1) p.log-room;
        log-magic = rw (e, log-left.0) (omega arith);
        db-size = rw (e, db-left.0) p.db-size;
        db-len = rw (e, db-left.0) db-left.1;
        clog-size = rw (e, r) p.clog-size;
        clog-len = rw e c;
        clog-magic = rw e l;
        one-frame = rw h p.one-frame;
        entries-few = rw m.0 n;
        entries-rise = rw m.0 t;
        touched-few = rw m.2 (omega arith);
        touched-rise = rw m.2 refl;
        touched-good = rw m.2 refl;
        resident-few = rw m.1 (omega arith);
        resident-apart = rw m.1 refl;
        resident-good = rw m.1 refl;
      }

  -- with a meta page and without
  pub opened-formed : InForm P (opened_world P f frames)
  unfolding opened_world with_meta without_meta
  opened-formed = go (has_meta P (content (replayed P f)))
    where
      go : (x : Bool) → InForm P (cond x (with_meta P f frames) (without_meta P f frames))
      go true =
          let o = open-fits f.clog p.clog-len p.clog-room in
          let r : room (settled 8 (open_clog f.clog)) ≡ room f.clog = settled-room 8 (open_clog f.clog) ∙ open-room f.clog in
          formed _ (full_table P f) (with_meta P f frames) refl refl (refl, refl, refl) (left.size ∙ r) left.fits
          (omega (arith, left.longer, settled-len 8 (open_clog f.clog), o.1)) p.entries (full-ascending P f)
      go false =
          formed _ (log_table P f.log) (without_meta P f frames) refl refl (refl, refl, refl) clog-reset.1
          (omega (arith, clog-reset.0, clog-reset.1, p.clog-room)) (omega (arith, clog-reset.0)) (omega (arith, p.entries, log-within P f)) (log-ascending P f.log)

  -- so no call on it gives 1 or 14
  pub opened-front : front_no P (opened_world P f frames) ≡ 0
  opened-front = form-front P (opened_world P f frames) opened-formed

  -- ---- with a meta page the clog file says what the table says, Active as Aborted and times 0

  pub left-valid : valid_clog (record_all 8 0 (log_table P f.log) (settled 8 (open_clog f.clog))) ≡ true
  left-valid =
      let o = open-fits f.clog p.clog-len p.clog-room in
      valid_same (settled 8 (open_clog f.clog)) _ left.front
      ∙ valid_same (open_clog f.clog) (settled 8 (open_clog f.clog)) (settled-header 8 (open_clog f.clog) o.0 o.1)
      ∙ open-valid f.clog p.clog-room

  settled-known : (k : ℕ) → known_as (slot_of 8 (content (settled 8 (open_clog f.clog))) k) ≡ known_as (slot_of 8 (content (open_clog f.clog)) k)
  settled-known k =
      let o = open-fits f.clog p.clog-len p.clog-room in
      sym (load-status-plain 8 (content (settled 8 (open_clog f.clog))) k)
      ∙ rw (settled-entries 8 (open_clog f.clog) o.0 o.1 0) (load-status-plain 8 (content (open_clog f.clog)) k)

  pub clog-agrees : has_meta P (content (replayed P f)) ≡ true → (k : ℕ) →
      status_of k (clog_table (opened_world P f frames).files.clog) ≡ kept (status_of k (opened_world P f frames).mem.table)
  unfolding with_meta
  clog-agrees h k = rw (world-meta P f frames h) (
      clog-word (with_meta P f frames).files.clog k
      ∙ rw (left-valid, slots-plain 8 _ _ _ left k, full-word P f k, open-word f.clog p.clog-room k)
      (go (status_of k (log_table P f.log))))
    where
      go : (w : Option Status) → known_as (code_or_else w (slot_of 8 (content (settled 8 (open_clog f.clog))) k))
          ≡ kept (or_known w (known_as (slot_of 8 (content (open_clog f.clog)) k)))
      go (Some s) = refl
      go None = settled-known k ∙ sym (kept-known (slot_of 8 (content (open_clog f.clog)) k))
