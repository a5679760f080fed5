-- (d) The first bytes of a record after a log that reads to its end: files with them are opened as those without. P is the page size. Assumes nothing.
use mathlib.Core.Path.{◌≡◌, refl}
use mathlib.Core.List.{List}
use Prim.Native.Nat.{ℕ, ◌+◌, ◌≤◌, ◌<◌}
use native.Mathlib.Omega.{arith}
use lib.ListN.{length, take, length-take}
use Rattle.fields.specs.Files.{room, append}
use Rattle.fields.proofs.FileLaws.{lay-room, lay-len}
use Rattle.wal.specs.Records.{Record, encode}
use Rattle.wal.proofs.RecordLaws.{Sound}
use Rattle.world.specs.World.{Files}
use Rattle.world.specs.Steps.{with_log}
use Rattle.opening.specs.Opening.{records, replayed}
use Rattle.opening.proofs.LogFiles.{Reads, part-records}
use Rattle.opening.proofs.Alike.{alike-full}
use Rattle.torn.specs.Torn.{torn_no}
use Rattle.torn.proofs.Laws.{torn-means, part-tail}
use Rattle.absorbs.proofs.Opens.{OpensAs, opens_as}

pub part-opens : (P : ℕ) (f : Files) (frames : List ℕ) (q : Record) → Sound P q → Reads P f.log → (j : ℕ) → j < length (encode q) → f.log.len + j ≤ room f.log →
    torn_no P f frames ≡ 0 → OpensAs P f (with_log (append f.log (take j (encode q))) f) frames
unfolding replayed
part-opens P f frames q sound reads j part has ok =
    let p = torn-means P f frames ok in
    let g = with_log (append f.log (take j (encode q))) f in
    let e : records P (append f.log (take j (encode q))) ≡ records P f.log = part-records P f.log reads q sound p.log-len j has part in
    let r = lay-room f.log f.log.len (take j (encode q)) in
    let l = lay-len f.log f.log.len (take j (encode q)) in
    opens_as P f g frames
    (record {
      log-room = r;
      db-room = refl;
      clog-room = refl;
      log-len = omega (arith, r, l, length-take j (encode q), p.log-len);
      db-len = p.db-len;
      clog-len = p.clog-len;
    })
    (record { recs = e; db = rw e; full = alike-full P f g e refl refl }) p.format (part-tail P f.log reads q sound p.log-len j has part) ok
