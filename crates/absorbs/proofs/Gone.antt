-- (c) The log may go: where the database is what replay gives and the clog says of each id at or above the mark what the opening finds, an opening of the same files
-- with no byte, some bytes or all bytes of the magic for a log finds the same. P is the page size. Assumes nothing.
use mathlib.Core.Path.{◌≡◌}
use mathlib.Core.List.{List}
use mathlib.Core.Bool.{true}
use Prim.Native.Nat.{ℕ, ◌≤◌}
use native.Mathlib.Omega.{arith}
use lib.ListN.{take}
use Rattle.fields.specs.Files.{File, content, room, header}
use Rattle.wal.specs.Records.{log_magic}
use Rattle.table.specs.Entries.{status_of}
use Rattle.meta.specs.Page.{has_meta}
use Rattle.world.specs.World.{Files}
use Rattle.world.specs.Steps.{with_log}
use Rattle.world.specs.Refusals.{any_of}
use Rattle.opening.specs.Opening.{replayed, statuses, clog_table, full_table, with_meta}
use Rattle.opening.proofs.Laws.{Bare, bare-replayed, bare-full}
use Rattle.opening.proofs.Tables.{clog-within}
use Rattle.opening.proofs.LogFiles.{cut-room, cut_fits, cut-bare}
use Rattle.opening.proofs.Formed.{Passed, next-above}
use Rattle.torn.specs.Torn.{torn_no, opening_torn}
use Rattle.torn.proofs.Laws.{bare-tail, torn-means, torn-passed, torn-meta}
use Rattle.keyoff.specs.KeyOff.{kept, NextAbove}

pub record LogGone (P : ℕ) (f g : Files) (frames : List ℕ) (least : ℕ) : Type 0 where
  pub accepted : torn_no P g frames ≡ 0
  pub statuses : (t : ℕ) → least ≤ t →
      status_of t (opening_torn P g frames).world.mem.table ≡ kept (status_of t (opening_torn P f frames).world.mem.table)
  pub mark : (opening_torn P g frames).world.mem.mark ≡ (opening_torn P f frames).world.mem.mark
  pub database : (opening_torn P g frames).world.files.db ≡ (opening_torn P f frames).world.files.db
  pub next : NextAbove (opening_torn P g frames).world.mem

module _ (P : ℕ) (f : Files) (frames : List ℕ) (log : File) (b : Bare P log) (size : room log ≡ room f.log) (fits : log.len ≤ room log) (ok : torn_no P f frames ≡ 0)
    (still : replayed P f ≡ f.db) (has : has_meta P (content f.db) ≡ true) where
  abbrev without : Files
  without = with_log log f

  passes : Passed P without frames
  unfolding statuses any_of
  passes =
      let p = torn-means P f frames ok in
      record {
        log-size = omega (arith, size, p.log-size);
        log-len = fits;
        db-size = p.db-size;
        db-len = p.db-len;
        clog-size = p.clog-size;
        clog-len = p.clog-len;
        one-frame = p.one-frame;
        format = p.format;
        log-room = omega (arith, size, p.log-room);
        images = rw b.none;
        clog-room = p.clog-room;
        ids = rw b.none;
        entries = rw (bare-full P without b) (omega (arith, clog-within P f, p.entries));
      }

  number : torn_no P without frames ≡ 0
  number = torn-passed P without frames passes (bare-tail P log b)

  there : (opening_torn P f frames).world ≡ with_meta P f frames
  there = torn-meta P f frames ok (rw still has)

  gone : (opening_torn P without frames).world ≡ with_meta P without frames
  gone = torn-meta P without frames number (rw (bare-replayed P without b) has)

  gone-as : (mark : ℕ) → ((t : ℕ) → mark ≤ t → status_of t (clog_table f.clog) ≡ kept (status_of t (full_table P f))) → LogGone P f without frames mark
  unfolding with_meta
  gone-as mark said = record {
    accepted = number;
    statuses = λ t l. rw (gone, there, bare-full P without b) (said t l);
    mark = rw (gone, there, bare-replayed P without b, still);
    database = rw (gone, there, bare-replayed P without b, still);
    next = rw gone (next-above P without frames passes);
  }

-- a truncation cut after n bytes of the magic
pub log-gone : (P : ℕ) (f : Files) (frames : List ℕ) (n mark : ℕ) → torn_no P f frames ≡ 0 → replayed P f ≡ f.db → has_meta P (content f.db) ≡ true →
    ((t : ℕ) → mark ≤ t → status_of t (clog_table f.clog) ≡ kept (status_of t (full_table P f))) →
    LogGone P f (with_log (header (take n log_magic) f.log) f) frames mark
log-gone P f frames n mark ok still has said =
    let l = (torn-means P f frames ok).log-room in
    gone-as P f frames (header (take n log_magic) f.log) (cut-bare n f.log l P) (cut-room n f.log l) (cut_fits n f.log l) ok still has mark said
