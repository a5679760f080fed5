-- Laws of the pass over a log, over the page size P: what is found so far, with what the records from a place on add to it;
-- a turn moves one record from the one to the other. Assumes nothing.
use mathlib.Core.Path.{◌≡◌, refl, sym, ap, ◌∙◌}
use mathlib.Core.List.{List, [], ◌∷◌, map}
use mathlib.Core.Bool.{Bool, true, false, cond, ◌||◌}
use Prim.Native.Nat.{ℕ, ◌+◌, ◌*◌, ◌≤◌, ◌<◌}
use native.Mathlib.Omega.{arith}
use lib.Dec.{ltb}
use lib.ListN.{length, take, drop, length-take, drop_of_length-le, length-append}
use lib.Seq.{length-take-le}
use Rattle.fields.proofs.Tests.{or-false}
use Rattle.fields.specs.Bytes.{starts}
use Rattle.fields.specs.Files.{File, file_of, content, unfit}
use Rattle.fields.proofs.FileLaws.{fit-means}
use Rattle.fields.proofs.Stored.{starts-means}
use Rattle.wal.specs.Records.{log_magic, Record, image, begin, commit, abort, checkpoint, clean, ending_no, Parsed, joined, parse, records_in, start_of, log_of}
use Rattle.wal.specs.Reading.{read_told, read_in, start_in}
use Rattle.wal.specs.Inside.{shown}
use Rattle.wal.specs.declared.Read.{Read}
use Rattle.wal.proofs.ParseLaws.{parse-none}
use Rattle.wal.proofs.ReadLaws.{Turn, stops, breaks, fails, goes, turn}
use Rattle.table.specs.declared.Entry.{Entry}
use Rattle.frames.specs.Pages.{bad_page}
use Rattle.world.specs.Refusals.{any_of, or_else}
use Rattle.opening.specs.Opening.{statuses, past_db, past_clog}
use Rattle.opening.proofs.Laws.{or-zero}
use Rattle.scan.specs.Scans.{Scanned, nothing, found, scanned, next_of}
use Rattle.scan.specs.Inside.{image_past, with_image, with_status, with_record, with_read}
use Rattle.wal.proofs.Sizes.{Sized, all-sized}
use Rattle.scan.proofs.Held.{hold_all, hold-all, hold-none}

-- ---- what is found so far, and what a parse of the rest adds

or_swap : (a b c : Bool) → ((a || b) || c) ≡ (b || (a || c))
or_swap true true c = refl
or_swap true false c = refl
or_swap false true c = refl
or_swap false false c = refl

module _ (P db clog : ℕ) where
  unfoldable pub onto : Scanned → Parsed → Scanned
  onto s p =
      record {
        images = any_of (map (past_db P db) (records_in p.found)) || s.images;
        ids = any_of (map (past_clog clog) (statuses (records_in p.found))) || s.ids;
        held = hold_all 256 (statuses (records_in p.found)) s.held;
        ending = or_else (ending_no p.ending) s.ending;
      }

  ids-swap : (e : Entry) (p : Parsed) (s : Scanned) →
      ((past_clog clog e || any_of (map (past_clog clog) (statuses (records_in p.found)))) || s.ids)
      ≡ (any_of (map (past_clog clog) (statuses (records_in p.found))) || (past_clog clog e || s.ids))
  ids-swap e p s = or_swap (past_clog clog e) (any_of (map (past_clog clog) (statuses (records_in p.found)))) s.ids

  -- a record, and the parse of what follows it
  onto-record : (at body : ℕ) (x : Record) (p : Parsed) (s : Scanned) → Sized P x →
      onto (with_record P db clog (shown body x) s) p ≡ onto s (joined (record { at = at; what = x } ∷ []) p)
  unfolding onto records_in statuses any_of hold_all with_image with_status image_past
  onto-record at body (image page bytes) p s z =
      rw (z, or_swap (bad_page page || ltb db (page * P + P)) (any_of (map (past_db P db) (records_in p.found))) s.images)
  onto-record at body (begin id) p s z = rw (ids-swap _ p s)
  onto-record at body (commit id time) p s z = rw (ids-swap _ p s)
  onto-record at body (abort id) p s z = rw (ids-swap _ p s)
  onto-record at body checkpoint p s z = refl

  -- nothing is left
  onto-end : (s : Scanned) → onto s (record { found = []; ending = clean }) ≡ s
  unfolding onto records_in statuses any_of hold_all
  onto-end s = refl

  -- a whole log, from its start on
  pub onto-start : (log : File) → onto (nothing 0) (parse P (start_in log) (drop (start_in log) (content log))) ≡ found P db clog log
  unfolding onto nothing found start_in log_of
  onto-start log =
      let p = parse P (start_of (content log)) (drop (start_of (content log)) (content log)) in
      let h : hold_all 256 (statuses (records_in p.found)) _ ≡ _ = rw (hold-none 256) at (hold-all 256 (statuses (records_in p.found)) []) in
      rw (or-false, or-false, or-zero, h)

-- ---- turn by turn

-- where the log ends nothing is left
pub rest-none : (P : ℕ) (buf : List ℕ) (len : ℕ) → parse P len (drop len (take len buf)) ≡ record { found = []; ending = clean }
rest-none P buf len =
    let l : length (take len buf) ≤ len = rw length-take (omega arith) in
    rw (drop_of_length-le (take len buf) l, parse-none)

module _ (P : ℕ) (buf : List ℕ) (len : ℕ) (fit : unfit 16777216 (length buf) len ≡ false) where
  -- the records start inside the log
  pub start-within : start_in (file_of buf len) ≤ len
  unfolding start_in start_of
  start-within = go (starts log_magic (take len buf)) refl
    where
      n : length (take len buf) ≡ len
      n = length-take-le len buf (fit-means 16777216 (length buf) len fit).1

      go : (x : Bool) → starts log_magic (take len buf) ≡ x → cond x 8 (length (take len buf)) ≤ len
      go false e = omega (arith, n)
      go true e =
          let m : length log_magic ≡ 8 = unfold log_magic in refl in
          let l = ap length (starts-means log_magic (take len buf) e) in
          omega (arith, n, l, length-append log_magic (drop (length log_magic) (take len buf)))

  -- what a turn of a loop over the records needs: the place moves on and stays inside
  pub record Ahead (at : ℕ) (r : Read) : Type 0 where
    pub further : at < next_of len r
    pub within : next_of len r ≤ len

  module _ (at : ℕ) (r : Read) (l : at < len) (e : read_told r ≡ read_in P (file_of buf len) at) where
    pub ahead : Ahead at r
    ahead = go (turn P buf len at r fit (omega arith) e)
      where
        go : Turn P buf len at r → Ahead at r
        go (stops f h p) = absurd (omega arith)
        go (breaks m f p) = record { further = rw f l; within = rw f (omega arith) }
        go (fails f p) = record { further = rw f l; within = rw f (omega arith) }
        go (goes x next f g h p) = record { further = rw f g; within = rw f h }

    -- and what is found moves over
    pub moved : (db clog : ℕ) (s : Scanned) →
        onto P db clog (with_read P db clog r s) (parse P (next_of len r) (drop (next_of len r) (take len buf)))
        ≡ onto P db clog s (parse P at (drop at (take len buf)))
    unfolding onto records_in statuses any_of hold_all
    moved db clog s = go (turn P buf len at r fit (omega arith) e)
      where
        go : Turn P buf len at r →
            onto P db clog (with_read P db clog r s) (parse P (next_of len r) (drop (next_of len r) (take len buf)))
            ≡ onto P db clog s (parse P at (drop at (take len buf)))
        go (stops f h p) = absurd (omega arith)
        go (breaks m f p) = rw (f, p, rest-none P buf len)
        go (fails f p) = rw (f, p, rest-none P buf len)
        go (goes x next f g h p) =
            let z = rw p at (all-sized P at (drop at (take len buf))) in
            rw (f, p) (onto-record P db clog at (at + 1) x (parse P next (drop next (take len buf))) s z.0)

  -- the pass is done
  pub scan-done : (db clog at : ℕ) (s : Scanned) → at ≡ len → onto P db clog s (parse P at (drop at (take len buf))) ≡ found P db clog (file_of buf len) →
      s ≡ scanned P db clog (file_of buf len)
  unfolding scanned
  scan-done db clog at s e f =
      let k : onto P db clog s (record { found = []; ending = clean }) ≡ found P db clog (file_of buf len) = rw (e, rest-none P buf len) at f in
      rw fit (sym (onto-end P db clog s) ∙ k)
