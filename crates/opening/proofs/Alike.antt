-- Files that an opening finds the same of, over the page size P. Of the log only its records matter, not its bytes; of log, database and clog together only
-- the records, the database after replay, and the table. Assumes nothing.
use mathlib.Core.Path.{◌≡◌, sym, ◌∙◌}
use mathlib.Core.List.{List}
use mathlib.Core.Bool.{Bool, true, false, cond}
use Prim.Native.Nat.{ℕ}
use Rattle.fields.specs.Files.{File, content, room, header}
use Rattle.wal.specs.Records.{log_magic}
use Rattle.meta.specs.Page.{has_meta}
use Rattle.world.specs.World.{Files}
use Rattle.opening.specs.Opening.{records, replayed, log_table, full_table, open_room_no, log_time, with_meta, without_meta, opened_world}
use Rattle.opening.proofs.Laws.{world-db}

-- ---- of the log its records

module _ (P : ℕ) (old new : File) (same : records P new ≡ records P old) where
  pub alike-log : log_table P new ≡ log_table P old
  unfolding log_table
  alike-log = rw same

  pub alike-time : log_time P new ≡ log_time P old
  unfolding log_time
  alike-time = rw alike-log

module _ (P : ℕ) (f g : Files) (same : records P g.log ≡ records P f.log) (db : g.db ≡ f.db) (clog : g.clog ≡ f.clog) where
  pub alike-replayed : replayed P g ≡ replayed P f
  unfolding replayed
  alike-replayed = rw (same, db)

  pub alike-full : full_table P g ≡ full_table P f
  unfolding full_table
  alike-full = rw (alike-log P f.log g.log same, clog)

  pub alike-room : room g.log ≡ room f.log → open_room_no P g ≡ open_room_no P f
  unfolding open_room_no
  alike-room r = rw (alike-full, r, same, db, clog)

  -- the world that is opened, but for bytes past the log's magic
  pub alike-world : (frames : List ℕ) → opened_world P g frames ≡
      record {
        files = record { log = header log_magic g.log; db = (opened_world P f frames).files.db; clog = (opened_world P f frames).files.clog };
        frames = frames;
        mem = (opened_world P f frames).mem;
      }
  unfolding opened_world
  alike-world frames = rw alike-replayed (go (has_meta P (content (replayed P f))))
    where
      go : (x : Bool) → cond x (with_meta P g frames) (without_meta P g frames) ≡
          record {
            files = record {
              log = header log_magic g.log;
              db = (cond x (with_meta P f frames) (without_meta P f frames)).files.db;
              clog = (cond x (with_meta P f frames) (without_meta P f frames)).files.clog;
            };
            frames = frames;
            mem = (cond x (with_meta P f frames) (without_meta P f frames)).mem;
          }
      go true = unfold with_meta in rw (alike-replayed, alike-full, alike-log P f.log g.log same, alike-time P f.log g.log same, clog)
      go false = unfold without_meta in rw (alike-replayed, alike-log P f.log g.log same, alike-time P f.log g.log same, clog)

-- ---- of the files their records, the database after replay and the table

pub record Stays (P : ℕ) (f g : Files) : Type 0 where
  pub recs : records P g.log ≡ records P f.log
  pub db : replayed P g ≡ replayed P f
  pub full : full_table P g ≡ full_table P f

module _ (P : ℕ) (f g : Files) (frames : List ℕ) (s : Stays P f g) where
  -- table, mark, next id, next commit time and page count
  pub stays-mem : (opened_world P g frames).mem ≡ (opened_world P f frames).mem
  unfolding opened_world
  stays-mem = rw s.db (go (has_meta P (content (replayed P f))))
    where
      go : (x : Bool) → (cond x (with_meta P g frames) (without_meta P g frames)).mem ≡ (cond x (with_meta P f frames) (without_meta P f frames)).mem
      go true = unfold with_meta in rw (s.db, s.full, alike-time P f.log g.log s.recs)
      go false = unfold without_meta in rw (s.db, alike-log P f.log g.log s.recs, alike-time P f.log g.log s.recs)

  pub stays-db : (opened_world P g frames).files.db ≡ (opened_world P f frames).files.db
  stays-db = world-db P g frames ∙ s.db ∙ sym (world-db P f frames)
