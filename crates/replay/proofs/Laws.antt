-- Laws of the images of a log laid into a database, over the page size P: the page bytes that the reader shows at a place are those of the record there, and a
-- turn lays one record and leaves the others. Assumes nothing.
use mathlib.Core.Path.{◌≡◌, refl, ap}
use mathlib.Core.List.{List, [], ◌∷◌}
use mathlib.Core.Bool.{true, false}
use Prim.Native.Nat.{ℕ, ◌+◌, ◌-◌, ◌*◌, ◌≤◌, ◌<◌, max}
use native.Mathlib.Omega.{arith}
use borrow.Author.Tests.{le-ltb, eq-eqb, ne_eqb}
use lib.ListN.{length, take, drop, replicate}
use lib.Seq.{sets}
use Rattle.fields.specs.Files.{File, file_of, content, lay, unfit}
use Rattle.wal.specs.Records.{Record, image, begin, commit, abort, checkpoint, decode, ended, Placed, parse, records_in, log_of}
use Rattle.wal.specs.Reading.{read_told, read_in, start_in, outside, page_in, page_of, image_in}
use Rattle.wal.specs.Inside.{shown}
use Rattle.wal.specs.declared.Read.{Read}
use Rattle.wal.proofs.RecordLaws.{Fronted, at-end, bad, short, whole, front}
use Rattle.wal.proofs.ParseLaws.{decode-front, parse-none, parse-bad, parse-short, parse-front}
use Rattle.wal.proofs.ReadLaws.{Turn, stops, breaks, fails, goes, turn}
use Rattle.opening.specs.Opening.{laid_by, replay}
use Rattle.scan.specs.Scans.{next_of}
use Rattle.wal.proofs.Sizes.{Sized, all-sized}
use Rattle.scan.proofs.Turns.{rest-none}
use Rattle.replay.specs.Replay.{laid_from}
use Rattle.replay.specs.Inside.{record_page, read_page, laid_page}

-- ---- the page bytes at a place

-- of the first record
abbrev first_page : List Placed → List ℕ
first_page [] = []
first_page (p ∷ ps) = page_in p.what

page-first : (P at : ℕ) (s : List ℕ) → Fronted P s → page_of (decode P s) ≡ first_page (parse P at s).found
page-first P at s (at-end e) =
    let d : decode P [] ≡ ended = unfold decode in refl in
    rw (e, d, parse-none)
page-first P at s (bad e) = rw (e, parse-bad P at s e)
page-first P at s (short m h e) = rw (e, parse-short P at m s e)
page-first P at s (whole tag body rest l h e f) = rw (decode-front P tag body rest s l h e f, parse-front P at tag body rest s l h e f)

module _ (P : ℕ) (buf : List ℕ) (len at : ℕ) (fit : unfit 16777216 (length buf) len ≡ false) (l : at < len) where
  image-first : image_in P (file_of buf len) at ≡ first_page (parse P at (drop at (take len buf))).found
  unfolding image_in outside
  image-first =
      let h : at ≤ len = omega arith in
      rw (fit, le-ltb len at h) (page-first P at (drop at (take len buf)) (front P (drop at (take len buf))))

  -- ---- one turn

  -- an image is laid, another record lays nothing
  laid_one : (body : ℕ) (x : Record) (db : File) → 0 < P → Sized P x → laid_page P (record_page (shown body x)) (page_in x) db ≡ laid_by P x db
  unfolding laid_page
  laid_one body (image page bytes) db p z = let n : length bytes ≡ 0 → ⊥ = λ h. omega arith in rw (ne_eqb (length bytes) 0 n)
  laid_one body (begin id) db p z = refl
  laid_one body (commit id time) db p z = refl
  laid_one body (abort id) db p z = refl
  laid_one body checkpoint db p z = refl

  pub laid-turn : 0 < P → (r : Read) → read_told r ≡ read_in P (file_of buf len) at → (db : File) →
      replay P (records_in (parse P (next_of len r) (drop (next_of len r) (take len buf))).found) (laid_page P (read_page r) (image_in P (file_of buf len) at) db)
      ≡ replay P (records_in (parse P at (drop at (take len buf))).found) db
  unfolding replay records_in laid_page
  laid-turn p r e db = rw image-first (go (turn P buf len at r fit (omega arith) e))
    where
      go : Turn P buf len at r →
          replay P (records_in (parse P (next_of len r) (drop (next_of len r) (take len buf))).found)
          (laid_page P (read_page r) (first_page (parse P at (drop at (take len buf))).found) db)
          ≡ replay P (records_in (parse P at (drop at (take len buf))).found) db
      go (stops f h q) = absurd (omega arith)
      go (breaks m f q) = rw (f, q, rest-none P buf len)
      go (fails f q) = rw (f, q, rest-none P buf len)
      go (goes x next f g h q) =
          let z = rw q at (all-sized P at (drop at (take len buf))) in
          rw (f, q) (ap (replay P (records_in (parse P next (drop next (take len buf))).found)) (laid_one (at + 1) x db p z.0))

-- ---- the ways out of `lay_page`

module _ (P page len : ℕ) (bytes db : List ℕ) where
  pub no-page : length bytes ≡ 0 → file_of db len ≡ laid_page P page bytes (file_of db len)
  unfolding laid_page
  no-page e = rw (eq-eqb (length bytes) 0 e)

  -- the gap filled, then the page
  pub whole-page : (length bytes ≡ 0 → ⊥) → (filled out : List ℕ) (end : ℕ) → filled ≡ sets db len (replicate (page * P - len) 0) →
      out ≡ sets filled (page * P) bytes → end ≡ max len (page * P + length bytes) → file_of out end ≡ laid_page P page bytes (file_of db len)
  unfolding laid_page lay
  whole-page n filled out end e f g = rw (ne_eqb (length bytes) 0 n, f, e, g)

-- ---- a whole log

module _ (P : ℕ) (log db : File) where
  pub laid-unfit : unfit 16777216 (length log.bytes) log.len ≡ true → db ≡ laid_from P log db
  unfolding laid_from
  laid-unfit u = rw u

  pub laid-start : unfit 16777216 (length log.bytes) log.len ≡ false →
      replay P (records_in (parse P (start_in log) (drop (start_in log) (content log))).found) db ≡ laid_from P log db
  unfolding laid_from start_in log_of
  laid-start u = rw u

-- nothing is left
pub laid_done : (P : ℕ) (buf : List ℕ) (len at : ℕ) (db out : File) → at ≡ len →
    replay P (records_in (parse P at (drop at (take len buf))).found) db ≡ out → db ≡ out
unfolding replay records_in
laid_done P buf len at db out e f = rw (e, rest-none P buf len) at f

-- ---- one answer

-- the bytes and the length stand in the file: a contract that gives the file lets one buffer and one length through
pub file-parts : (xs ys : List ℕ) (m n : ℕ) → file_of xs m ≡ file_of ys n → (xs ≡ ys) × (m ≡ n)
file-parts xs ys m n e = (ap (λ (f : File). f.bytes) e, ap (λ (f : File). f.len) e)
