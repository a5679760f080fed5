-- (b) The log's statuses are laid over the clog's, so a clog may differ in the slots of ids that the log has a word on, and in zeros after its end: the table of an
-- opening is the same list. A clog that is not valid may be reset, at any byte of its magic. P is the page size. Assumes nothing.
use mathlib.Core.Path.{◌≡◌, refl, sym, ap, ◌∙◌, subst}
use mathlib.Core.List.{List}
use mathlib.Core.Bool.{Bool, true, false, cond}
use Prim.Native.Nat.{ℕ, ◌+◌, ◌/◌, ◌≤◌, ◌<◌}
use native.Mathlib.Omega.{arith}
use lib.ListN.{length, take, length-take}
use lib.Seq.{take_all}
use Rattle.fields.specs.Files.{File, content, room, header}
use Rattle.fields.proofs.Tests.{Equal, equal, other, equality}
use Rattle.fields.proofs.FileLaws.{header-room, header-len, header-content}
use Rattle.wal.specs.Records.{Record}
use Rattle.std.specs.Prelude.{Option, Some, None}
use Rattle.table.specs.declared.Status.{Status}
use Rattle.table.specs.Entries.{status_of}
use Rattle.table.proofs.Facts.{or_known, settled_known, same-table}
use Rattle.clog.specs.Slots.{clog_magic, slot_of, valid_clog, set_slot}
use Rattle.clog.proofs.SlotLaws.{slot-magic, record-room, record-fit, record-header, record_same, record-other}
use Rattle.clog.proofs.TableLaws.{known_as, valid-long, valid_same}
use Rattle.world.specs.World.{Files}
use Rattle.world.specs.Steps.{with_clog}
use Rattle.opening.specs.Opening.{records, end_of, replayed, clog_table, full_table}
use Rattle.opening.proofs.Tables.{last_word, clog-word, full-ascending, full-by-word}
use Rattle.partway.specs.Partway.{grown}
use Rattle.partway.proofs.Lengths.{grown-room, grown-fits, grown-valid, grown-slot}
use Rattle.torn.specs.Torn.{tail_no, torn_no}
use Rattle.torn.proofs.Laws.{torn-means}
use Rattle.absorbs.proofs.Opens.{OpensAs, opens_as}

-- the clog g loads as f does, but for ids that the records have a word on; and its buffer is as large
pub record Absorbed (rs : List Record) (f g : File) : Type 0 where
  pub size : room g ≡ room f
  pub fits : g.len ≤ room g
  pub words : (k : ℕ) → last_word k rs ≡ None → status_of k (clog_table g) ≡ status_of k (clog_table f)

-- ---- the law

module _ (P : ℕ) (f g : Files) (log : records P g.log ≡ records P f.log) (a : Absorbed (records P f.log) f.clog g.clog) where
  absorbed-status : (k : ℕ) → status_of k (full_table P g) ≡ status_of k (full_table P f)
  absorbed-status k =
      full-by-word P g k ∙ rw log (go (last_word k (records P f.log)) refl) ∙ sym (full-by-word P f k)
    where
      go : (w : Option Status) → last_word k (records P f.log) ≡ w →
          or_known (settled_known (last_word k (records P f.log))) (status_of k (clog_table g.clog))
          ≡ or_known (settled_known (last_word k (records P f.log))) (status_of k (clog_table f.clog))
      go (Some s) e = rw e
      go None e = rw e (a.words k e)

  -- the very same table, so as many entries and the same largest id
  pub absorbed-full : full_table P g ≡ full_table P f
  absorbed-full = same-table (full_table P g) (full_table P f) (full-ascending P g) (full-ascending P f) absorbed-status

-- ---- what is absorbed

module _ (rs : List Record) where
  -- from slots: the header decides as before, and each slot that the records have no word on loads as before
  absorbed-by : (f g : File) → room g ≡ room f → g.len ≤ room g → valid_clog g ≡ valid_clog f →
      ((k : ℕ) → last_word k rs ≡ None → known_as (slot_of 8 (content g) k) ≡ known_as (slot_of 8 (content f) k)) → Absorbed rs f g
  absorbed-by f g r l v s =
      record {
        size = r;
        fits = l;
        words = λ k e.
            clog-word g k ∙ ap (λ (b : Bool). cond b (known_as (slot_of 8 (content g) k)) None) v
            ∙ ap (λ (w : Option Status). cond (valid_clog f) w None) (s k e) ∙ sym (clog-word f k);
      }

  module _ (f : File) (k : ℕ) (fits : f.len ≤ room f) (head : 8 ≤ f.len) (has : 8 + k / 4 < room f) where
    -- a slot's store at its point: lengthened
    pub absorbed-grown : Absorbed rs f (grown f (8 + k / 4 + 1))
    absorbed-grown =
        absorbed-by f (grown f (8 + k / 4 + 1)) (grown-room f (8 + k / 4 + 1)) (grown-fits f (8 + k / 4 + 1) fits (omega arith))
        (grown-valid f (8 + k / 4 + 1) fits (omega arith) head) (λ t z. ap known_as (grown-slot f (8 + k / 4 + 1) fits (omega arith) t))

    -- and whole, of an id that the records have a word on, or where it loads as before
    pub absorbed-slot : (c : ℕ) → c < 4 → (last_word k rs ≡ None → known_as c ≡ known_as (slot_of 8 (content f) k)) → Absorbed rs f (set_slot 8 k c f)
    absorbed-slot c small w =
        absorbed-by f (set_slot 8 k c f) (record-room 8 k c f) (record-fit 8 k c f fits has) (valid_same f (set_slot 8 k c f) (record-header 8 k c f fits has head))
        (λ t e. go t (equality k t) e)
      where
        go : (t : ℕ) → Equal k t → last_word t rs ≡ None → known_as (slot_of 8 (content (set_slot 8 k c f)) t) ≡ known_as (slot_of 8 (content f) t)
        go t (equal p) e =
            subst (λ (j : ℕ). last_word j rs ≡ None → known_as (slot_of 8 (content (set_slot 8 k c f)) j) ≡ known_as (slot_of 8 (content f) j)) p
            (λ a. ap known_as (record_same 8 k c f fits has small) ∙ w a) e
        go t (other n) e = ap known_as (record-other 8 k c f fits has small t n)

  -- a reset of a clog that is not valid, at each byte of the magic
  pub absorbed-reset : (f : File) (n : ℕ) → 8 ≤ room f → valid_clog f ≡ false → Absorbed rs f (header (take n clog_magic) f)
  absorbed-reset f n h v =
      let m : length clog_magic ≡ 8 = unfold clog_magic in refl in
      let t = length-take n clog_magic in
      let l = header-len (take n clog_magic) f in
      let r = header-room (take n clog_magic) f in
      record {
        size = r;
        fits = omega (arith, l, r, t, m);
        words = λ k e. go k (valid_clog (header (take n clog_magic) f)) refl ∙ sym (clog-word f k ∙ rw v);
      }
    where
      -- a valid one is the whole magic
      whole : valid_clog (header (take n clog_magic) f) ≡ true → 8 ≤ n
      whole x =
          let m : length clog_magic ≡ 8 = unfold clog_magic in refl in
          omega (arith, valid-long (header (take n clog_magic) f) x, header-len (take n clog_magic) f, length-take n clog_magic, m)

      go : (k : ℕ) (x : Bool) → valid_clog (header (take n clog_magic) f) ≡ x → status_of k (clog_table (header (take n clog_magic) f)) ≡ None
      go k false x = clog-word (header (take n clog_magic) f) k ∙ rw x
      go k true x =
          let m : length clog_magic ≡ 8 = unfold clog_magic in refl in
          let a : take n clog_magic ≡ clog_magic = take_all n clog_magic (omega (arith, whole x, m)) in
          let c : content (header clog_magic f) ≡ clog_magic = header-content clog_magic f (omega (arith, m)) in
          let s : slot_of 8 (content (header (take n clog_magic) f)) k ≡ 0 = rw (a, c) (slot-magic k) in
          clog-word (header (take n clog_magic) f) k ∙ rw (x, s)

-- ---- so files with such a clog are opened as before

pub overlay-opens : (P : ℕ) (f : Files) (frames : List ℕ) (c : File) → Absorbed (records P f.log) f.clog c → torn_no P f frames ≡ 0 → tail_no (end_of P f.log) ≡ 0 →
    OpensAs P f (with_clog c f) frames
unfolding replayed
overlay-opens P f frames c a ok tail =
    let p = torn-means P f frames ok in
    opens_as P f (with_clog c f) frames
    (record { log-room = refl; db-room = refl; clog-room = a.size; log-len = p.log-len; db-len = p.db-len; clog-len = a.fits })
    (record { recs = refl; db = refl; full = absorbed-full P f (with_clog c f) refl a }) p.format tail ok
