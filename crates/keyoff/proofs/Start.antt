-- A store that was opened with a meta page of version 0 or 2 meets the invariant. P is the page size. Assumes nothing.
use mathlib.Core.Path.{◌≡◌, refl, sym, ap, ◌∙◌, subst}
use mathlib.Core.List.{List, []}
use mathlib.Core.Bool.{true}
use Prim.Native.Nat.{ℕ, ◌+◌, ◌/◌, ◌^◌, ◌<◌}
use native.Mathlib.Omega.{arith}
use lib.ListN.{length}
use Rattle.fields.specs.Files.{content, room}
use Rattle.table.specs.declared.Status.{Status}
use Rattle.table.specs.declared.Status.TheVariants.{Active, Committed, Aborted}
use Rattle.std.specs.Prelude.{Option, Some, None}
use Rattle.table.specs.Entries.{status_of}
use Rattle.table.proofs.Facts.{absent-not}
use Rattle.clog.specs.Slots.{code_of, slot_of, valid_clog}
use Rattle.clog.proofs.SlotLaws.{slot-within}
use Rattle.clog.proofs.TableLaws.{known_as, known-active, known-committed, known-aborted}
use Rattle.meta.specs.Page.{has_meta, stored_mark, version, good_version}
use Rattle.world.specs.World.{Files, World}
use Rattle.world.specs.Refusals.{any_of}
use Rattle.world.proofs.FormLaws.{InForm}
use Rattle.opening.specs.Opening.{records, replayed, statuses, clog_table, full_table, open_no, with_meta, Opening, opening}
use Rattle.opening.proofs.Laws.{world-meta, accepted}
use Rattle.opening.proofs.Tables.{last_word, clog-word, word_none}
use Rattle.opening.proofs.LogFiles.{cut-reads, cut-records}
use Rattle.opening.proofs.Formed as formed
use Rattle.opening.proofs.Formed.{left-valid, Passed, no-means, opened-formed, clog-agrees}
use Rattle.keyoff.specs.KeyOff.{OpenedWithMeta, BytesIn, kept}
use Rattle.opening.proofs.Replays.{agrees-none}
use Rattle.keyoff.proofs.Page.{Stands}
use Rattle.keyoff.proofs.Typed.{stored-field}
use Rattle.keyoff.proofs.Invariant.{Inv, Kept}

-- what a status becomes in the clog and back
pub kept-code : (s : Status) → known_as (code_of s) ≡ kept (Some s)
kept-code Active = known-active
kept-code (Committed t) = known-committed t
kept-code Aborted = known-aborted

kept-is : (k : Option Status) → formed.kept k ≡ kept k
kept-is (Some s) = kept-code s
kept-is None = refl

-- a status that is held is kept as one
kept_there : (s : Status) → (t : Status) × (kept (Some s) ≡ Some t)
kept_there Active = (Aborted, refl)
kept_there (Committed t) = (Committed (record { 0 = 0 }), refl)
kept_there Aborted = (Aborted, refl)

-- a slot that loads as a status is not 0
slot-there : (c : ℕ) (s : Status) → known_as c ≡ Some s → c ≡ 0 → ⊥
slot-there c s h e = absent-not (known_as c) s (rw e) h

module _ (P : ℕ) (f : Files) (frames : List ℕ) (p : Passed P f frames) (has : has_meta P (content (replayed P f)) ≡ true) where
  form : InForm P (with_meta P f frames)
  form = rw (world-meta P f frames has) at (opened-formed P f frames p)

  -- the clog that is left says what the table says
  agrees : (k : ℕ) → status_of k (clog_table (with_meta P f frames).files.clog) ≡ kept (status_of k (full_table P f))
  unfolding with_meta
  agrees k = rw (world-meta P f frames has) at (clog-agrees P f frames p has k) ∙ kept-is (status_of k (full_table P f))

  clog-valid : valid_clog (with_meta P f frames).files.clog ≡ true
  unfolding with_meta
  clog-valid = left-valid P f frames p

  -- so each slot loads as the table's status
  slots-are : (k : ℕ) → known_as (slot_of 8 (content (with_meta P f frames).files.clog) k) ≡ kept (status_of k (full_table P f))
  slots-are k =
      let e : status_of k (clog_table (with_meta P f frames).files.clog) ≡ known_as (slot_of 8 (content (with_meta P f frames).files.clog) k) =
      clog-word (with_meta P f frames).files.clog k ∙ rw clog-valid in
      sym e ∙ agrees k

  ids-fit : (k : ℕ) (s : Status) → status_of k (full_table P f) ≡ Some s → 8 + k / 4 < room (with_meta P f frames).files.clog
  ids-fit k s h =
      let c = (with_meta P f frames).files.clog in
      let n = slot-there (slot_of 8 (content c) k) (kept_there s).0 (slots-are k ∙ rw h (kept_there s).1) in
      omega (arith, slot-within 8 k c n, form.clog-len)

  -- the log that is left has no record
  log-left : records P (with_meta P f frames).files.log ≡ []
  unfolding with_meta
  log-left = cut-records P f.log p.log-room

  silent : (t : ℕ) (s : Status) → last_word t (records P (with_meta P f frames).files.log) ≡ Some s → ⊥
  silent t s h = absent-not _ s (rw log-left (word_none t)) h

  module _ (page : Stands P (content (replayed P f)) (stored_mark (content (replayed P f)))) (small : stored_mark (content (replayed P f)) < 2 ^ 64) where
    starts : Inv P (with_meta P f frames).files (length frames) (full_table P f) (stored_mark (content (replayed P f)))
    unfolding with_meta
    starts =
        record {
          log-size = form.log-size;
          log-len = form.log-len;
          db-size = form.db-size;
          db-len = form.db-len;
          clog-size = form.clog-size;
          clog-len = form.clog-len;
          one-frame = form.one-frame;
          reads = cut-reads P f.log p.log-room;
          rest = rw log-left tt;
          agrees = rw log-left (agrees-none P (replayed P f));
          ids = rw log-left (unfold statuses any_of in refl);
          valid = clog-valid;
          marks = record {
            untimed = λ t u h. silent t (Committed u) h;
            logged = λ t s h n. silent t s h;
            slotted = λ t n. slots-are t ∙ rw n;
            last = λ t m s h. absurd (silent t s h);
            slots = λ t m. slots-are t;
            fits = ids-fit;
          };
          sorted = form.entries-rise;
          few = form.entries-few;
          page = page;
          small = small;
        }

-- the world that an opening leaves, however its log ends
pub meta-keeps : (P : ℕ) (f : Files) (frames : List ℕ) → Passed P f frames → BytesIn f → has_meta P (content (replayed P f)) ≡ true →
    good_version (version (content (replayed P f))) ≡ true → Kept P (with_meta P f frames)
unfolding with_meta
meta-keeps P f frames p b has good =
    starts P f frames p has (record { has = has; good = good; stored = refl }) (stored-field P f p.images p.db-len b.0 b.1 24)

-- the opened world
pub opened-keeps : (P : ℕ) (f : Files) (frames : List ℕ) → BytesIn f → OpenedWithMeta P f (opening P f frames) → Kept P (opening P f frames).world
unfolding opening
opened-keeps P f frames b o =
    let ok : open_no P f frames ≡ 0 = o.accepted in
    let e : (opening P f frames).world ≡ with_meta P f frames = ap (λ (x : Opening). x.world) (accepted P f frames ok) ∙ world-meta P f frames o.meta in
    subst (λ (v : World). Kept P v) (sym e) (meta-keeps P f frames (no-means P f frames ok) b o.meta o.version)
