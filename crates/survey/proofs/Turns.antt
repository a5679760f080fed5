-- Laws of the pass over a log, over the page size P: what is found so far, with what the records from a place on add to it;
-- a turn moves one record from the one to the other. Assumes nothing.
use mathlib.Core.Path.{◌≡◌, refl, sym, ◌∙◌}
use mathlib.Core.List.{List, [], ◌∷◌, map}
use mathlib.Core.Bool.{Bool, true, false, ◌||◌}
use Prim.Native.Nat.{ℕ, ◌+◌, ◌*◌, ◌<◌}
use native.Mathlib.Omega.{arith}
use lib.Dec.{ltb}
use lib.ListN.{length, take, drop}
use Rattle.fields.proofs.Tests.{or-false}
use Rattle.fields.specs.Files.{File, file_of, content, unfit}
use Rattle.wal.specs.Records.{Record, image, begin, commit, abort, checkpoint, clean, ending_no, Parsed, joined, parse, records_in, log_of}
use Rattle.wal.specs.Reading.{read_told, read_in, start_in}
use Rattle.wal.specs.Inside.{shown}
use Rattle.wal.specs.declared.Read.{Read}
use Rattle.wal.proofs.ReadLaws.{Turn, stops, breaks, fails, goes, turn}
use Rattle.wal.proofs.Sizes.{Sized, all-sized}
use Rattle.table.specs.declared.Entry.{Entry}
use Rattle.table.specs.Entries.{active_to_aborted}
use Rattle.rows.specs.Rows.{set_all}
use Rattle.frames.specs.Pages.{bad_page}
use Rattle.world.specs.Refusals.{any_of, or_else}
use Rattle.opening.specs.Opening.{statuses, past_db, past_clog}
use Rattle.opening.proofs.Laws.{or-zero}
use Rattle.scan.specs.Scans.{next_of}
use Rattle.scan.specs.Inside.{image_past}
use Rattle.scan.proofs.Turns.{rest-none}
use Rattle.survey.specs.Survey.{Survey, nothing, found, surveyed}
use Rattle.survey.specs.Inside.{with_image, with_status, with_record, with_read}

or_swap : (a b c : Bool) → ((a || b) || c) ≡ (b || (a || c))
or_swap true true c = refl
or_swap true false c = refl
or_swap false true c = refl
or_swap false false c = refl

module _ (P db clog : ℕ) where
  unfoldable pub onto : Survey → Parsed → Survey
  onto s p =
      record {
        images = any_of (map (past_db P db) (records_in p.found)) || s.images;
        ids = any_of (map (past_clog clog) (statuses (records_in p.found))) || s.ids;
        held = set_all 256 s.held (active_to_aborted (statuses (records_in p.found)));
        ending = or_else (ending_no p.ending) s.ending;
      }

  ids-swap : (e : Entry) (p : Parsed) (s : Survey) →
      ((past_clog clog e || any_of (map (past_clog clog) (statuses (records_in p.found)))) || s.ids)
      ≡ (any_of (map (past_clog clog) (statuses (records_in p.found))) || (past_clog clog e || s.ids))
  ids-swap e p s = or_swap (past_clog clog e) (any_of (map (past_clog clog) (statuses (records_in p.found)))) s.ids

  -- a record, and the parse of what follows it
  onto-record : (at body : ℕ) (x : Record) (p : Parsed) (s : Survey) → Sized P x →
      onto (with_record P db clog (shown body x) s) p ≡ onto s (joined (record { at = at; what = x } ∷ []) p)
  unfolding onto records_in statuses any_of set_all with_image with_status image_past
  onto-record at body (image page bytes) p s z =
      rw (z, or_swap (bad_page page || ltb db (page * P + P)) (any_of (map (past_db P db) (records_in p.found))) s.images)
  onto-record at body (begin id) p s z = rw (ids-swap _ p s)
  onto-record at body (commit id time) p s z = rw (ids-swap _ p s)
  onto-record at body (abort id) p s z = rw (ids-swap _ p s)
  onto-record at body checkpoint p s z = refl

  -- nothing is left
  onto-end : (s : Survey) → onto s (record { found = []; ending = clean }) ≡ s
  unfolding onto records_in statuses any_of set_all
  onto-end s = refl

  -- a whole log, from its start on
  pub onto-start : (log : File) (rows : List (List ℕ)) →
      onto (nothing rows 0) (parse P (start_in log) (drop (start_in log) (content log))) ≡ found P db clog log rows
  unfolding onto found start_in log_of
  onto-start log rows = rw (or-false, or-false, or-zero)

-- ---- turn by turn

module _ (P : ℕ) (buf : List ℕ) (len : ℕ) (fit : unfit 16777216 (length buf) len ≡ false) where
  -- what is found moves over
  pub moved : (at : ℕ) (r : Read) → at < len → read_told r ≡ read_in P (file_of buf len) at → (db clog : ℕ) (s : Survey) →
      onto P db clog (with_read P db clog r s) (parse P (next_of len r) (drop (next_of len r) (take len buf)))
      ≡ onto P db clog s (parse P at (drop at (take len buf)))
  unfolding onto records_in statuses any_of set_all
  moved at r l e db clog s = go (turn P buf len at r fit (omega arith) e)
    where
      go : Turn P buf len at r →
          onto P db clog (with_read P db clog r s) (parse P (next_of len r) (drop (next_of len r) (take len buf)))
          ≡ onto P db clog s (parse P at (drop at (take len buf)))
      go (stops f h p) = absurd (omega arith)
      go (breaks m f p) = rw (f, p, rest-none P buf len)
      go (fails f p) = rw (f, p, rest-none P buf len)
      go (goes x next f g h p) =
          let z = rw p at (all-sized P at (drop at (take len buf))) in
          rw (f, p) (onto-record P db clog at (at + 1) x (parse P next (drop next (take len buf))) s z.0)

  -- the pass is done
  pub survey-done : (db clog at : ℕ) (rows : List (List ℕ)) (s : Survey) → at ≡ len →
      onto P db clog s (parse P at (drop at (take len buf))) ≡ found P db clog (file_of buf len) rows → s ≡ surveyed P db clog (file_of buf len) rows
  unfolding surveyed
  survey-done db clog at rows s e f =
      let k : onto P db clog s (record { found = []; ending = clean }) ≡ found P db clog (file_of buf len) rows = rw (e, rest-none P buf len) at f in
      rw fit (sym (onto-end P db clog s) ∙ k)
