-- Files that are opened as others are, in the mode that takes a torn record as the end: accepted, with the same memory and the same database. What has to be shown of
-- them. P is the page size. Assumes nothing.
use mathlib.Core.Path.{◌≡◌, ap}
use mathlib.Core.List.{List}
use Prim.Native.Nat.{ℕ, ◌≤◌}
use native.Mathlib.Omega.{arith}
use lib.ListN.{length}
use Rattle.fields.specs.Files.{room}
use Rattle.meta.specs.Page.{format_no}
use Rattle.world.specs.World.{Files}
use Rattle.opening.specs.Opening.{records, end_of, full_table}
use Rattle.opening.proofs.Formed.{Passed}
use Rattle.opening.proofs.Alike.{Stays, stays-mem, stays-db}
use Rattle.torn.specs.Torn.{tail_no, torn_no, opening_torn}
use Rattle.torn.proofs.Laws.{torn-means, torn-passed, torn-world}

pub record OpensAs (P : ℕ) (f g : Files) (frames : List ℕ) : Type 0 where
  pub accepted : torn_no P g frames ≡ 0
  pub mem : (opening_torn P g frames).world.mem ≡ (opening_torn P f frames).world.mem
  pub db : (opening_torn P g frames).world.files.db ≡ (opening_torn P f frames).world.files.db

-- lengths within buffers of the same sizes
pub record Fits (f g : Files) : Type 0 where
  pub log-room : room g.log ≡ room f.log
  pub db-room : room g.db ≡ room f.db
  pub clog-room : room g.clog ≡ room f.clog
  pub log-len : g.log.len ≤ room g.log
  pub db-len : g.db.len ≤ room g.db
  pub clog-len : g.clog.len ≤ room g.clog

module _ (P : ℕ) (f g : Files) (frames : List ℕ) (z : Fits f g) where
  -- it passes what f passes; the page 0 that it finds is asked by itself
  pub fits-passed : records P g.log ≡ records P f.log → length (full_table P g) ≤ length (full_table P f) → format_no P g.db ≡ 0 → Passed P f frames → Passed P g frames
  fits-passed e few format p = record {
    log-size = omega (arith, p.log-size, z.log-room);
    log-len = z.log-len;
    db-size = omega (arith, p.db-size, z.db-room);
    db-len = z.db-len;
    clog-size = omega (arith, p.clog-size, z.clog-room);
    clog-len = z.clog-len;
    one-frame = p.one-frame;
    format = format;
    log-room = omega (arith, p.log-room, z.log-room);
    images = rw (e, z.db-room) p.images;
    clog-room = omega (arith, p.clog-room, z.clog-room);
    ids = rw (e, z.clog-room) p.ids;
    entries = omega (arith, few, p.entries);
  }

  -- so with the same records, the same database after replay and the same table it is opened as f is
  pub opens_as : Stays P f g → format_no P g.db ≡ 0 → tail_no (end_of P g.log) ≡ 0 → torn_no P f frames ≡ 0 → OpensAs P f g frames
  opens_as s format tail ok =
      let n : torn_no P g frames ≡ 0 =
      torn-passed P g frames (fits-passed s.recs (omega (arith, ap length s.full)) format (torn-means P f frames ok)) tail in
      let a = torn-world P g frames n in
      let b = torn-world P f frames ok in
      record { accepted = n; mem = rw (a, b) (stays-mem P f g frames s); db = rw (a, b) (stays-db P f g frames s) }
