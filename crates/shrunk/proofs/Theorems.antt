-- Document 02's sentences on the second form, said of what the calls answer: with the bytes of accepted calls in hand. `TwoForms g o` says that the file g, of the
-- second form, and the file o, of the old one, are the same clog: o holds what g is moved to.
--   "files move both ways"                                                                                        second-moved, first-moved, moved-is
--   "where neither move is refused, old to new to old returns the same bytes"                                     there_and_back
--   "and new to old to new if the base is the one this rule gives under the stated mark"                          back-and-there
--   a status has the same id in both; an id below the base is absent                                              slot_same, slot-absent, status-same
--   "record, compact and load are proved once over the base": they are clog's own, and each, done in both forms, leaves two forms of one clog again
--                                                                                                                 record-both, compact-both, load-both, load-number
--   "compaction keeps the base", and the length                                                                   compact-keeps
--   the length that the file states follows what a record adds; the base stays                                    record-states
--   a load keeps length and base                                                                                  load-keeps
-- A file of the second form is bytes below 256, which in the code the type says. Assumes nothing.
use mathlib.Core.Path.{◌≡◌, refl, sym, ap, ◌∙◌}
use mathlib.Core.List.{List}
use mathlib.Core.Bool.{false, cond}
use Prim.Native.Nat.{ℕ, ◌+◌, ◌-◌, ◌/◌, ◌%◌, ◌≤◌, ◌<◌}
use native.Mathlib.Omega.{arith}
use lib.Dec.{lit<}
use lib.ListN.{length, take, drop, length-drop}
use lib.Seq.{sets-eq, take_at, length-take-le}
use Rattle.std.specs.Prelude.{Ok}
use Rattle.fields.specs.Bytes.{Bytes, big_field}
use Rattle.fields.specs.Files as files
use Rattle.fields.specs.Files.{File, file_of, content, room}
use Rattle.fields.specs.Answers.{Outcome, outcome}
use Rattle.fields.proofs.Tests.{passed}
use Rattle.fields.proofs.FileLaws as file-laws
use Rattle.fields.proofs.FileLaws.{content-length}
use Rattle.table.specs.declared.Table.{Table}
use Rattle.table.specs.Entries.{status_of, empty_table, laid}
use Rattle.clog.specs.Slots.{slot_of, clear_slots, entries_in, in_use, settled}
use Rattle.clog.specs.Calls.{record_no, load_no, recorded, compacted, LoadOutcome, load_outcome, table_by, load_decided, loaded}
use Rattle.clog.proofs.Codes.{many}
use Rattle.clog.proofs.Refusals.{fit-ok, record-fits, compact-fits, load_fits}
use Rattle.clog.proofs.SlotLaws.{record-len, record-fit, record-header, compact-len, compact-room, compact-header, settled-len, settled-room, settled-header}
use Rattle.clog.proofs.Theorems.{accepted-file, recorded-file, compacted-file, loaded-file}
use Rattle.shrunk.specs.Form.{base_of, misfits, base_under, to_second, to_first}
use Rattle.shrunk.specs.Calls.{second_no, form_no, first_no, written, moved_second, moved_first, relength, recorded_second, compacted_second, loaded_second}
use Rattle.shrunk.proofs.FormLaws.{fits-means, fits-ok, base_same, fits-same}
use Rattle.shrunk.proofs.MoveLaws.{length-first, second_fits, old-back, second_back, slot-below, slot-above, entries-same}
use Rattle.shrunk.proofs.SquareLaws.{slotted, relength-len, relength-base, relength-states, relength-fits, compact-square, settled-square, record-square}
use Rattle.shrunk.proofs.Ways.{second-means, first-means}

pub record TwoForms (g o : File) : Type 0 where
  pub fits : misfits (content g) ≡ false
  pub same : content o ≡ to_first (content g)

-- ---- what is written is what the file holds

written-content : (out ys : List ℕ) → length ys ≤ length out → content (written out ys) ≡ ys
unfolding written
written-content out ys h =
    let l : 0 + length ys ≤ length out = omega arith in
    rw (sets-eq ys out 0 l) (take_at ys (drop (0 + length ys) out) (length ys) refl)

written-len : (out ys : List ℕ) → (written out ys).len ≡ length ys
unfolding written
written-len out ys = refl

-- ---- the moves

module _ (mark n : ℕ) (f : File) (out bs : List ℕ) (done : moved_second mark f out ≡ outcome (Ok n) bs) where
  second-file : (second_no mark f (length out) ≡ 0) × (file_of bs n ≡ written out (to_second mark (content f)))
  unfolding moved_second
  second-file =
      accepted-file (second_no mark f (length out)) n (file_of out 0) (written out (to_second mark (content f))) bs
      (ap (λ (o : Outcome). o.told) done) (ap (λ (o : Outcome). o.bytes) done)

  second-bytes : take n bs ≡ to_second mark (content f)
  second-bytes =
      let m = second-means mark f.len (length out) f.bytes _ refl second-file.0 in
      ap content second-file.1 ∙ written-content out (to_second mark (content f)) m.5

  pub second-moved : TwoForms (file_of bs n) f
  second-moved =
      let m = second-means mark f.len (length out) f.bytes _ refl second-file.0 in
      let l : length (content f) ≤ 1048576 = rw (content-length f m.1) (omega (arith, m.0, m.1)) in
      record {
        fits = rw second-bytes (fits-ok (to_second mark (content f)) (second_fits mark (content f) m.3 l));
        same = rw second-bytes (sym (old-back mark (content f) m.3 l m.4));
      }

module _ (n : ℕ) (g : File) (out bs : List ℕ) (done : moved_first g out ≡ outcome (Ok n) bs) where
  first-file : (first_no g (length out) ≡ 0) × (file_of bs n ≡ written out (to_first (content g)))
  unfolding moved_first
  first-file =
      accepted-file (first_no g (length out)) n (file_of out 0) (written out (to_first (content g))) bs
      (ap (λ (o : Outcome). o.told) done) (ap (λ (o : Outcome). o.bytes) done)

  first-length : n ≡ length (to_first (content g))
  first-length = ap (λ (x : File). x.len) first-file.1 ∙ written-len out (to_first (content g))

  first-bytes : take n bs ≡ to_first (content g)
  first-bytes =
      let m = first-means g (length out) _ refl first-file.0 in
      let s : length (to_first (content g)) ≡ 8 + base_of (content g) / 4 + (g.len - 13) = length-first (content g) ∙ rw (content-length g m.1) in
      ap content first-file.1 ∙ written-content out (to_first (content g)) (omega (arith, m.4, s))

  pub first-moved : TwoForms g (file_of bs n)
  first-moved = record { fits = (first-means g (length out) _ refl first-file.0).2; same = first-bytes }

  -- where g and o are the same clog, every accepted move of g gives o's bytes
  pub moved-is : (o : File) → TwoForms g o → take n bs ≡ content o
  moved-is o two = first-bytes ∙ sym two.same

module _ (mark n m : ℕ) (bs bs₂ out out₂ : List ℕ) where
  -- old to new to old
  pub there_and_back : (f : File) → moved_second mark f out ≡ outcome (Ok n) bs → moved_first (file_of bs n) out₂ ≡ outcome (Ok m) bs₂
      → (m ≡ f.len) × (take m bs₂ ≡ content f)
  there_and_back f there back =
      let e : take m bs₂ ≡ content f = first-bytes m (file_of bs n) out₂ bs₂ back ∙ sym (second-moved mark n f out bs there).same in
      let s = second-means mark f.len (length out) f.bytes _ refl (second-file mark n f out bs there).0 in
      let l : m ≡ length (content f) = first-length m (file_of bs n) out₂ bs₂ back ∙ ap length (sym (second-moved mark n f out bs there).same) in
      (l ∙ content-length f s.1, e)

  -- new to old to new, if the base is the one that the rule gives: n is the length of the old form, and n - 8 that of its body
  pub back-and-there : (g : File) → Bytes (content g) → base_of (content g) ≡ base_under mark (n - 8)
      → moved_first g out ≡ outcome (Ok n) bs → moved_second mark (file_of bs n) out₂ ≡ outcome (Ok m) bs₂ → (m ≡ g.len) × (take m bs₂ ≡ content g)
  back-and-there g b rule back there =
      let p = first-means g (length out) _ refl (first-file n g out bs back).0 in
      let k : length (drop 8 (to_first (content g))) ≡ n - 8 = length-drop 8 (to_first (content g)) ∙ ap (λ (x : ℕ). x - 8) (sym (first-length n g out bs back)) in
      let e : take m bs₂ ≡ content g =
      second-bytes mark m (file_of bs n) out₂ bs₂ there ∙ ap (to_second mark) (first-bytes n g out bs back)
      ∙ second_back mark (content g) (fits-means (content g) p.2) b (rw k rule) in
      let l : m ≡ length (to_second mark (content (file_of bs n))) =
      ap (λ (x : File). x.len) (second-file mark m (file_of bs n) out₂ bs₂ there).1 ∙ written-len out₂ (to_second mark (content (file_of bs n))) in
      (l ∙ ap length (sym (second-bytes mark m (file_of bs n) out₂ bs₂ there) ∙ e) ∙ content-length g p.1, e)

-- ---- the statuses

module _ (g o : File) (two : TwoForms g o) where
  fourfold : base_of (content g) % 4 ≡ 0
  fourfold = (fits-means (content g) two.fits).fourfold

  pub slot_same : (id : ℕ) → base_of (content g) ≤ id → slot_of 8 (content o) id ≡ slot_of 13 (content g) (id - base_of (content g))
  slot_same id h = rw two.same (slot-above (content g) fourfold id h)

  pub slot-absent : (id : ℕ) → id < base_of (content g) → slot_of 8 (content o) id ≡ 0
  slot-absent id h = rw two.same (slot-below (content g) fourfold id h)

  entries : entries_in 8 0 (content o) ≡ entries_in 13 (base_of (content g)) (content g)
  entries = rw two.same (entries-same (content g) fourfold)

  pub status-same : (id : ℕ) → status_of id (entries_in 8 0 (content o)) ≡ status_of id (entries_in 13 (base_of (content g)) (content g))
  status-same id = ap (status_of id) entries

-- ---- a call on the second form that is accepted

form-accepted : (f : File) (n : ℕ) → form_no f n ≡ 0 → (room f ≤ 1048576) × (f.len ≤ room f) × (misfits (content f) ≡ false) × (n ≡ 0)
unfolding form_no
form-accepted f n z =
    let p = passed (files.unfit 1048576 (room f) f.len) 1 (cond (misfits (content f)) 23 n) (lit< tt) z in
    let q = passed (misfits (content f)) 23 n (lit< tt) p.1 in
    let m = file-laws.fit-means 1048576 (room f) f.len p.0 in
    (m.0, m.1, q.0, q.1)

-- ---- record

module _ (id c n : ℕ) (g : File) (bs : List ℕ) (done : recorded_second g id c ≡ outcome (Ok n) bs) where
  record-file : (form_no g (record_no 13 (base_of (content g)) id (room g) g.len) ≡ 0) × (file_of bs n ≡ relength (slotted id c g))
  unfolding recorded_second
  record-file =
      accepted-file (form_no g (record_no 13 (base_of (content g)) id (room g) g.len)) n g (relength (slotted id c g)) bs
      (ap (λ (o : Outcome). o.told) done) (ap (λ (o : Outcome). o.bytes) done)

  pub record-states : (4 + big_field 4 0 (take n bs) ≡ n) × (base_of (take n bs) ≡ base_of (content g)) × (misfits (take n bs) ≡ false)
  record-states =
      let a = form-accepted g _ record-file.0 in
      let f = record-fits 13 (base_of (content g)) id (room g) g.len _ refl a.3 in
      let s : (slotted id c g).len ≤ room (slotted id c g) = record-fit 13 (id - base_of (content g)) c g f.1 f.3 in
      let l = record-len 13 (id - base_of (content g)) c g in
      let h : 13 ≤ (slotted id c g).len = omega (arith, l) in
      let k : (slotted id c g).len ≤ 1048576 = omega (arith, l, f.0, f.1, f.3) in
      let e : take 13 (content (slotted id c g)) ≡ take 13 (content g) = record-header 13 (id - base_of (content g)) c g f.1 f.3 f.2 in
      let w : take n bs ≡ content (relength (slotted id c g)) = ap content record-file.1 in
      let m : n ≡ (slotted id c g).len = ap (λ (x : File). x.len) record-file.1 ∙ relength-len (slotted id c g) s in
      let t : big_field 4 0 (take n bs) ≡ (slotted id c g).len - 4 = ap (λ (x : List ℕ). big_field 4 0 x) w ∙ relength-states (slotted id c g) s h k in (
        omega (arith, t, m, h),
        ap base_of w ∙ relength-base (slotted id c g) s ∙ base_same (content g) (content (slotted id c g)) e,
        ap misfits w ∙ fits-ok (content (relength (slotted id c g))) (relength-fits (slotted id c g) s (content g) h k e (fits-means (content g) a.2)),
      )

  pub record-both : (m : ℕ) (o : File) (cs : List ℕ) → recorded 8 0 o id c ≡ outcome (Ok m) cs → TwoForms g o → TwoForms (file_of bs n) (file_of cs m)
  record-both m o cs did two =
      let a = form-accepted g _ record-file.0 in
      let f = record-fits 13 (base_of (content g)) id (room g) g.len _ refl a.3 in
      let p = recorded-file 8 0 id c m o cs did in
      let q = record-fits 8 0 id (room o) o.len _ refl p.0 in
      let i : id - 0 ≡ id = omega arith in
      let r : 8 + id / 4 < room o = rw i at q.3 in
      record {
        fits = record-states.2;
        same =
            ap content (rw i at p.1) ∙ record-square g o two.same a.1 q.1 (fits-means (content g) two.fits) id c f.4 f.3 r
            ∙ ap (λ (x : File). to_first (content x)) (sym record-file.1);
      }

-- ---- compact

module _ (w n : ℕ) (g : File) (bs : List ℕ) (done : compacted_second g w ≡ outcome (Ok n) bs) where
  compact-file : (form_no g 0 ≡ 0) × (file_of bs n ≡ clear_slots 13 (w - base_of (content g)) g)
  unfolding compacted_second
  compact-file =
      accepted-file (form_no g 0) n g (clear_slots 13 (w - base_of (content g)) g) bs (ap (λ (o : Outcome). o.told) done) (ap (λ (o : Outcome). o.bytes) done)

  pub compact-keeps : (n ≡ g.len) × (base_of (take n bs) ≡ base_of (content g)) × (misfits (take n bs) ≡ false)
  compact-keeps =
      let a = form-accepted g 0 compact-file.0 in
      let f = fits-means (content g) a.2 in
      let h : 13 ≤ g.len = omega (arith, f.long, content-length g a.1) in
      let m : n ≡ g.len = ap (λ (x : File). x.len) compact-file.1 ∙ compact-len 13 (w - base_of (content g)) g in
      let e : take 13 (take n bs) ≡ take 13 (content g) = ap (λ (x : File). take 13 (content x)) compact-file.1 ∙ compact-header 13 (w - base_of (content g)) g a.1 h in
      let r : length bs ≡ room g = ap room compact-file.1 ∙ compact-room 13 (w - base_of (content g)) g in
      let l : length (take n bs) ≡ length (content g) = length-take-le n bs (omega (arith, m, r, a.1)) ∙ m ∙ sym (content-length g a.1) in
      (m, base_same (content g) (take n bs) e, fits-ok (take n bs) (fits-same (content g) (take n bs) e l f))

  pub compact-both : (m : ℕ) (o : File) (cs : List ℕ) → compacted 8 0 o w ≡ outcome (Ok m) cs → TwoForms g o → TwoForms (file_of bs n) (file_of cs m)
  compact-both m o cs did two =
      let a = form-accepted g 0 compact-file.0 in
      let p = compacted-file 8 0 w m o cs did in
      let q = compact-fits 8 (room o) o.len _ refl p.0 in
      let i : w - 0 ≡ w = omega arith in
      record {
        fits = compact-keeps.2;
        same =
            ap content (rw i at p.1) ∙ compact-square g o two.same a.1 q.1 (fits-means (content g) two.fits) w
            ∙ ap (λ (x : File). to_first (content x)) (sym compact-file.1);
      }

-- ---- load

-- a load of one form is refused by 7 where the other is
pub load-number : (N : ℕ) (g o : File) → TwoForms g o → room g ≤ 1048576 → g.len ≤ room g → room o ≤ 1048576 → o.len ≤ room o → 8 ≤ o.len → load_no N 13 g ≡ load_no N 8 o
unfolding load_no
load-number N g o two a b p q r =
    let f = fits-means (content g) two.fits in
    let h : 13 ≤ g.len = omega (arith, f.long, content-length g b) in
    let e : in_use 13 (content g) ≡ in_use 8 (content o) = sym (many 13 (base_of (content g)) (content g)) ∙ ap length (sym (entries g o two)) ∙ many 8 0 (content o) in
    rw (fit-ok 13 (room g) g.len a b h, fit-ok 8 (room o) o.len p q r, e)

module _ (N n : ℕ) (g : File) (t : Table) (bs : List ℕ) (done : loaded_second N g ≡ load_outcome (record { answer = Ok n; table = t }) bs) where
  load-file : (form_no g (load_no N 13 g) ≡ 0) × (file_of bs n ≡ settled 13 g)
  unfolding loaded_second load_decided
  load-file = accepted-file (form_no g (load_no N 13 g)) n g (settled 13 g) bs (ap (λ (o : LoadOutcome). o.told) done) (ap (λ (o : LoadOutcome). o.bytes) done)

  load-table : t ≡ laid (empty_table N) (entries_in 13 (base_of (content g)) (content g))
  unfolding loaded_second load_decided table_by
  load-table =
      sym (ap (λ (o : LoadOutcome). o.table) done) ∙ ap (λ (k : ℕ). table_by N k (entries_in 13 (base_of (content g)) (content g))) load-file.0

  pub load-keeps : (n ≡ g.len) × (base_of (take n bs) ≡ base_of (content g)) × (misfits (take n bs) ≡ false)
  load-keeps =
      let a = form-accepted g _ load-file.0 in
      let f = fits-means (content g) a.2 in
      let h : 13 ≤ g.len = omega (arith, f.long, content-length g a.1) in
      let m : n ≡ g.len = ap (λ (x : File). x.len) load-file.1 ∙ settled-len 13 g in
      let e : take 13 (take n bs) ≡ take 13 (content g) = ap (λ (x : File). take 13 (content x)) load-file.1 ∙ settled-header 13 g a.1 h in
      let r : length bs ≡ room g = ap room load-file.1 ∙ settled-room 13 g in
      let l : length (take n bs) ≡ length (content g) = length-take-le n bs (omega (arith, m, r, a.1)) ∙ m ∙ sym (content-length g a.1) in
      (m, base_same (content g) (take n bs) e, fits-ok (take n bs) (fits-same (content g) (take n bs) e l f))

  pub load-both : (m : ℕ) (o : File) (u : Table) (cs : List ℕ) → loaded N 8 0 o ≡ load_outcome (record { answer = Ok m; table = u }) cs → TwoForms g o
      → (t ≡ u) × TwoForms (file_of bs n) (file_of cs m)
  unfolding loaded load_decided table_by
  load-both m o u cs did two =
      let a = form-accepted g _ load-file.0 in
      let p = loaded-file N 8 0 m o u cs did in
      let q = load_fits N 8 o _ refl p.0 in
      let v : u ≡ laid (empty_table N) (entries_in 8 0 (content o)) = sym (ap (λ (x : LoadOutcome). x.table) did) ∙ ap (λ (k : ℕ). table_by N k (entries_in 8 0 (content o))) p.0 in (
        load-table ∙ ap (laid (empty_table N)) (sym (entries g o two)) ∙ sym v,
        record {
          fits = load-keeps.2;
          same =
              ap content p.1 ∙ settled-square g o two.same a.1 q.1 (fits-means (content g) two.fits) ∙ ap (λ (x : File). to_first (content x)) (sym load-file.1);
        },
      )
