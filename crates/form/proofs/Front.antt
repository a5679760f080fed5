-- Laws of the tests that every call makes first: 1 and 14 in the code's terms, and what a store that passes them is known to be. Assumes nothing.
use Prim.Native.Nat.{ℕ, ◌≤◌}
use native.Mathlib.Omega.{arith}
use mathlib.Core.Path.{◌≡◌, refl}
use mathlib.Core.List.{List}
use mathlib.Core.Bool.{true, false, cond, not, ◌||◌}
use lib.ListN.{length}
use lib.Dec.{ltb}
use borrow.Author.Tests.{ltb-false, not-false}
use Rattle.fields.proofs.Tests.{passed, or-false}
use Rattle.fields.proofs.FileLaws.{fit-means}
use Rattle.table.specs.declared.Table.{Table}
use Rattle.table.specs.Entries.{blank, list_of, laid, ascending, well_formed}
use Rattle.frames.specs.declared.Frames.{Frames}
use Rattle.frames.specs.declared.Touched.{Touched}
use Rattle.frames.specs.Pages as pages
use Rattle.frames.specs.Pages.{distinct, any_bad, laid_frames, laid_touched, frame_count, frames_formed, touched_formed}
use Rattle.world.specs.World.{files_of}
use Rattle.world.specs.Refusals.{any_of, bad_buffers, bad_table, bad_touched, bad_frames, bad_store, front_no}
use Rattle.form.specs.declared.Store.{Store}
use Rattle.form.specs.Store.{entries_of, resident_of, touched_of, mem_of, world_of}
use Rattle.form.specs.Inside.{out_of_form}
use Rattle.form.proofs.Arrays.{none_of, length-first, first_fits, first-same, Sized, table-bad, touched-bad, frames-bad, count_most}

-- ---- what the code tests

-- 14, by the tests of table, touched pages and frames
pub form-is : (P : ℕ) (s : Store) (size : ℕ) → Sized s →
    out_of_form P s size ≡
    (ltb s.lens.log 8 || (ltb s.lens.clog 8 ||
    (not (well_formed 256 s.table) || (not (touched_formed 64 s.held.touched) || not (frames_formed 64 P s.frames size)))))
unfolding out_of_form any_of
form-is P s size z =
    rw (table-bad s.table z.entries, touched-bad s.held.touched z.touched, frames-bad P s.frames size z.pages, or-false)

-- ---- what an accepted store is

pub record InForm (P : ℕ) (s : Store) (log db clog frames : List ℕ) : Type 0 where
  pub log-limit : length log ≤ 16777216
  pub db-limit : length db ≤ 16777216
  pub clog-limit : length clog ≤ 1048576
  pub a-frame : P ≤ length frames
  pub log-fits : s.lens.log ≤ length log
  pub db-fits : s.lens.db ≤ length db
  pub clog-fits : s.lens.clog ≤ length clog
  pub log-header : 8 ≤ s.lens.log
  pub clog-header : 8 ≤ s.lens.clog
  pub entries : s.table.count ≤ 256
  pub rising : ascending (entries_of s.table) ≡ true
  pub touched : s.held.touched.count ≤ 64
  pub touched-rising : pages.ascending (touched_of s.held.touched) ≡ true
  pub touched-good : any_bad (touched_of s.held.touched) ≡ false
  pub resident : s.frames.count ≤ frame_count 64 P (length frames)
  pub resident-apart : distinct (resident_of s.frames) ≡ true
  pub resident-good : any_bad (resident_of s.frames) ≡ false

table-few : (t : Table) → bad_table (entries_of t) ≡ false → (t.count ≤ 256) × (ascending (entries_of t) ≡ true)
unfolding bad_table
table-few t h =
    let g : ltb 256 (length (entries_of t)) ≡ false = none_of _ 0 h in
    let k : not (ascending (entries_of t)) ≡ false = none_of _ 1 h in
    (ltb-false 256 t.count (rw (length-first blank t.count t.entries) at g), not-false (ascending (entries_of t)) k)

-- touched pages that pass, a store's or a transaction's that is handed in
pub touched-few : (t : Touched) → bad_touched (touched_of t) ≡ false →
    (t.count ≤ 64) × ((pages.ascending (touched_of t) ≡ true) × (any_bad (touched_of t) ≡ false))
unfolding bad_touched
touched-few t h =
    let g : ltb 64 (length (touched_of t)) ≡ false = none_of _ 0 h in
    let k : not (pages.ascending (touched_of t)) ≡ false = none_of _ 1 h in
    (ltb-false 64 t.count (rw (length-first 0 t.count t.pages) at g), (not-false (pages.ascending (touched_of t)) k, none_of _ 2 h))

frames-few : (f : Frames) (most : ℕ) → bad_frames most (resident_of f) ≡ false →
    (f.count ≤ most) × ((distinct (resident_of f) ≡ true) × (any_bad (resident_of f) ≡ false))
unfolding bad_frames
frames-few f most h =
    let g : ltb most (length (resident_of f)) ≡ false = none_of _ 0 h in
    let k : not (distinct (resident_of f)) ≡ false = none_of _ 1 h in
    (ltb-false most f.count (rw (length-first 0 f.count f.pages) at g), (not-false (distinct (resident_of f)) k, none_of _ 2 h))

module _ (P : ℕ) (s : Store) (log db clog frames : List ℕ) where
  pub front-is : front_no P (world_of s log db clog frames) ≡
      cond (bad_buffers P (files_of s.lens log db clog) frames) 1 (cond (out_of_form P s (length frames)) 14 0)
  unfolding front_no bad_store out_of_form world_of mem_of
  front-is = refl

  means : bad_buffers P (files_of s.lens log db clog) frames ≡ false → out_of_form P s (length frames) ≡ false → InForm P s log db clog frames
  unfolding bad_buffers out_of_form
  means b f =
      let l = fit-means 16777216 (length log) s.lens.log (none_of _ 0 b) in
      let d = fit-means 16777216 (length db) s.lens.db (none_of _ 1 b) in
      let c = fit-means 1048576 (length clog) s.lens.clog (none_of _ 2 b) in
      let t = table-few s.table (none_of _ 2 f) in
      let u = touched-few s.held.touched (none_of _ 3 f) in
      let r = frames-few s.frames (frame_count 64 P (length frames)) (none_of _ 4 f) in
      record {
        log-limit = l.0;
        db-limit = d.0;
        clog-limit = c.0;
        a-frame = ltb-false (length frames) P (none_of _ 3 b);
        log-fits = l.1;
        db-fits = d.1;
        clog-fits = c.1;
        log-header = ltb-false s.lens.log 8 (none_of _ 0 f);
        clog-header = ltb-false s.lens.clog 8 (none_of _ 1 f);
        entries = t.0;
        rising = t.1;
        touched = u.0;
        touched-rising = u.1.0;
        touched-good = u.1.1;
        resident = r.0;
        resident-apart = r.1.0;
        resident-good = r.1.1;
      }

  -- a store that passes both tests is in form
  pub front-means : front_no P (world_of s log db clog frames) ≡ 0 → InForm P s log db clog frames
  front-means h =
      let e = rw front-is at h in
      let a = passed (bad_buffers P (files_of s.lens log db clog) frames) 1 (cond (out_of_form P s (length frames)) 14 0) (omega arith) e in
      let b = passed (out_of_form P s (length frames)) 14 0 (omega arith) a.1 in
      means a.0 b.0

  module _ (i : InForm P s log db clog frames) where
    pub few-frames : s.frames.count ≤ 64
    few-frames = omega (arith, i.resident, count_most P (length frames))

    -- the lists, with their own lengths
    pub entries-length : length (entries_of s.table) ≤ 256
    entries-length = rw (length-first blank s.table.count s.table.entries) i.entries

    pub touched-length : length (touched_of s.held.touched) ≤ 64
    touched-length = rw (length-first 0 s.held.touched.count s.held.touched.pages) i.touched

    pub resident-length : length (resident_of s.frames) ≤ frame_count 64 P (length frames)
    resident-length = rw (length-first 0 s.frames.count s.frames.pages) i.resident

    module _ (z : Sized s) where
      -- each is the array's first count
      pub entries-are : entries_of s.table ≡ list_of s.table
      entries-are = first_fits blank s.table.count s.table.entries (omega (arith, i.entries, z.entries))

      pub resident-are : resident_of s.frames ≡ pages.resident_of s.frames
      resident-are = first_fits 0 s.frames.count s.frames.pages (omega (arith, few-frames, z.pages))

      pub touched-are : touched_of s.held.touched ≡ pages.touched_of s.held.touched
      touched-are = first_fits 0 s.held.touched.count s.held.touched.pages (omega (arith, i.touched, z.touched))

      -- laid where it stood, it changes nothing
      pub table_same : laid s.table (entries_of s.table) ≡ s.table
      table_same =
          rw (first-same blank s.table.count s.table.entries (omega (arith, i.entries, z.entries)), length-first blank s.table.count s.table.entries)

      pub frames-same : laid_frames s.frames (resident_of s.frames) ≡ s.frames
      frames-same =
          rw (first-same 0 s.frames.count s.frames.pages (omega (arith, few-frames, z.pages)), length-first 0 s.frames.count s.frames.pages)

-- touched pages, a store's or a transaction's that is handed in, laid where they stood
pub touched-same : (t : Touched) → length t.pages ≡ 64 → t.count ≤ 64 → laid_touched t (touched_of t) ≡ t
touched-same t len h = rw (first-same 0 t.count t.pages (omega arith), length-first 0 t.count t.pages)
