-- A store in form: what every call tests first, said in numbers. Assumes nothing.
use mathlib.Core.Path.{◌≡◌, refl}
use mathlib.Core.List.{List, [], ◌∷◌, ◌++◌}
use mathlib.Core.Bool.{Bool, true, false, not}
use Prim.Native.Nat.{ℕ, zero, suc, ◌≤◌}
use borrow.Author.Tests.{ltb-false, le-ltb, not-false}
use lib.Dec.{ltb, lit<}
use lib.ListN.{length, get_or}
use Rattle.fields.specs.Files.{room, unfit}
use Rattle.fields.proofs.FileLaws.{fit-means}
use Rattle.fields.proofs.Tests.{passed, neither}
use Rattle.table.specs.declared.Entry.{Entry}
use Rattle.table.specs.Entries.{ascending}
use Rattle.frames.specs.Pages as pages
use Rattle.frames.specs.Pages.{distinct, any_bad, frame_count}
use Rattle.world.specs.World.{World}
use Rattle.world.specs.Refusals.{any_of, bad_buffers, bad_table, bad_touched, bad_frames, bad_store, front_no}

pub record InForm (P : ℕ) (w : World) : Type 0 where
  pub log-size : room w.files.log ≤ 16777216
  pub log-len : w.files.log.len ≤ room w.files.log
  pub log-magic : 8 ≤ w.files.log.len
  pub db-size : room w.files.db ≤ 16777216
  pub db-len : w.files.db.len ≤ room w.files.db
  pub clog-size : room w.files.clog ≤ 1048576
  pub clog-len : w.files.clog.len ≤ room w.files.clog
  pub clog-magic : 8 ≤ w.files.clog.len
  pub one-frame : P ≤ length w.frames
  pub entries-few : length w.mem.table ≤ 256
  pub entries-rise : ascending w.mem.table ≡ true
  pub touched-few : length w.mem.touched ≤ 64
  pub touched-rise : pages.ascending w.mem.touched ≡ true
  pub touched-good : any_bad w.mem.touched ≡ false
  pub resident-few : length w.mem.resident ≤ frame_count 64 P (length w.frames)
  pub resident-apart : distinct w.mem.resident ≡ true
  pub resident-good : any_bad w.mem.resident ≡ false

-- test i of a list of which none holds
pub none_of : (bs : List Bool) (i : ℕ) → any_of bs ≡ false → get_or bs i false ≡ false
unfolding any_of
none_of [] i h = refl
none_of (b ∷ bs) zero h = (neither b (any_of bs) h).0
none_of (b ∷ bs) (suc i) h = none_of bs i (neither b (any_of bs) h).1

-- and in two lists one after another
pub none_more : (bs cs : List Bool) → any_of bs ≡ false → any_of cs ≡ false → any_of (bs ++ cs) ≡ false
unfolding any_of
none_more [] cs h k = k
none_more (b ∷ bs) cs h k = let d = neither b (any_of bs) h in rw d.0 (none_more bs cs d.1 k)

buffers-good : (P : ℕ) (w : World) → bad_buffers P w.files w.frames ≡ false →
    (unfit 16777216 (room w.files.log) w.files.log.len ≡ false) × (unfit 16777216 (room w.files.db) w.files.db.len ≡ false) × (unfit 1048576 (room w.files.clog) w.files.clog.len ≡ false) × (ltb (length w.frames) P ≡ false)
unfolding bad_buffers
buffers-good P w h = (none_of _ 0 h, none_of _ 1 h, none_of _ 2 h, none_of _ 3 h)

store-good : (P : ℕ) (w : World) → bad_store P w ≡ false →
    (ltb w.files.log.len 8 ≡ false) × (ltb w.files.clog.len 8 ≡ false) × (bad_table w.mem.table ≡ false) × (bad_touched w.mem.touched ≡ false) × (bad_frames (frame_count 64 P (length w.frames)) w.mem.resident ≡ false)
unfolding bad_store
store-good P w h = (none_of _ 0 h, none_of _ 1 h, none_of _ 2 h, none_of _ 3 h, none_of _ 4 h)

table-good : (es : List Entry) → bad_table es ≡ false → (ltb 256 (length es) ≡ false) × (not (ascending es) ≡ false)
unfolding bad_table
table-good es h = (none_of _ 0 h, none_of _ 1 h)

pages-good : (ps : List ℕ) → bad_touched ps ≡ false → (ltb 64 (length ps) ≡ false) × (not (pages.ascending ps) ≡ false) × (any_bad ps ≡ false)
unfolding bad_touched
pages-good ps h = (none_of _ 0 h, none_of _ 1 h, none_of _ 2 h)

frames-good : (n : ℕ) (ps : List ℕ) → bad_frames n ps ≡ false → (ltb n (length ps) ≡ false) × (not (distinct ps) ≡ false) × (any_bad ps ≡ false)
unfolding bad_frames
frames-good n ps h = (none_of _ 0 h, none_of _ 1 h, none_of _ 2 h)

-- what the tests of every call say when they pass
pub front-means : (P : ℕ) (w : World) → front_no P w ≡ 0 → InForm P w
unfolding front_no
front-means P w h =
    let a = passed (bad_buffers P w.files w.frames) 1 _ (lit< tt) h in
    let b = passed (bad_store P w) 14 0 (lit< tt) a.1 in
    let x = buffers-good P w a.0 in
    let y = store-good P w b.0 in
    let l = fit-means 16777216 (room w.files.log) w.files.log.len x.0 in
    let d = fit-means 16777216 (room w.files.db) w.files.db.len x.1 in
    let c = fit-means 1048576 (room w.files.clog) w.files.clog.len x.2 in
    let t = table-good w.mem.table y.2 in
    let u = pages-good w.mem.touched y.3 in
    let f = frames-good (frame_count 64 P (length w.frames)) w.mem.resident y.4 in
    record {
      log-size = l.0;
      log-len = l.1;
      log-magic = ltb-false w.files.log.len 8 y.0;
      db-size = d.0;
      db-len = d.1;
      clog-size = c.0;
      clog-len = c.1;
      clog-magic = ltb-false w.files.clog.len 8 y.1;
      one-frame = ltb-false (length w.frames) P x.3;
      entries-few = ltb-false 256 (length w.mem.table) t.0;
      entries-rise = not-false (ascending w.mem.table) t.1;
      touched-few = ltb-false 64 (length w.mem.touched) u.0;
      touched-rise = not-false (pages.ascending w.mem.touched) u.1;
      touched-good = u.2;
      resident-few = ltb-false (frame_count 64 P (length w.frames)) (length w.mem.resident) f.0;
      resident-apart = not-false (distinct w.mem.resident) f.1;
      resident-good = f.2;
    }

-- and the other way
pub form-front : (P : ℕ) (w : World) → InForm P w → front_no P w ≡ 0
unfolding front_no bad_buffers bad_store bad_table bad_touched bad_frames any_of unfit
form-front P w i =
    rw (
      le-ltb 16777216 (room w.files.log) i.log-size,
      le-ltb (room w.files.log) w.files.log.len i.log-len,
      le-ltb 16777216 (room w.files.db) i.db-size,
      le-ltb (room w.files.db) w.files.db.len i.db-len,
      le-ltb 1048576 (room w.files.clog) i.clog-size,
      le-ltb (room w.files.clog) w.files.clog.len i.clog-len,
      le-ltb (length w.frames) P i.one-frame,
      le-ltb w.files.log.len 8 i.log-magic,
      le-ltb w.files.clog.len 8 i.clog-magic,
      le-ltb 256 (length w.mem.table) i.entries-few,
      i.entries-rise,
      le-ltb 64 (length w.mem.touched) i.touched-few,
      i.touched-rise,
      i.touched-good,
      le-ltb (frame_count 64 P (length w.frames)) (length w.mem.resident) i.resident-few,
      i.resident-apart,
      i.resident-good,
    )
