-- Laws for the ways out of `open`, over the page size P: refused with nothing changed, stopped at a bad record with the images laid, and accepted. The premises are
-- what the functions that it calls promise. Assumes nothing.
use Prim.Native.Nat.{ℕ, zero, suc, ◌<◌}
use native.Mathlib.Omega.{arith}
use mathlib.Core.Path.{◌≡◌, refl, ap, ◌∙◌}
use mathlib.Core.List.{List, [], ◌∷◌, map}
use lib.ListN.{length, take}
use Rattle.fields.specs.Files.{File, file_of, header}
use Rattle.sorted.specs.Sorted.{laid_on}
use Rattle.wal.specs.Records.{log_magic}
use Rattle.table.specs.declared.Entry.{Entry}
use Rattle.table.specs.Entries.{empty_table, list_of}
use Rattle.table.proofs.Facts.{list-laid}
use Rattle.rows.specs.Rows.{row_of}
use Rattle.std.specs.Prelude.{Option, Some, None, Result, Ok, Err}
use Rattle.std.specs.Result.{result_unwrap_or}
use Rattle.fields.specs.declared.refusal.Refusal.{Refusal}
use Rattle.fields.specs.Refusals.{number_of}
use Rattle.fields.proofs.AnswerLaws.{number-positive}
use Rattle.opening.specs.declared.Unopened.{Unopened}
use Rattle.opening.specs.declared.Unopened.TheVariants.{Refused, Torn, Unknown}
use Rattle.meta.specs.declared.Counters.{Counters}
use Rattle.meta.specs.Page.{stored_told, meta_in}
use Rattle.frames.specs.Pages.{empty_frames, empty_touched}
use Rattle.world.specs.declared.Lens.{Lens}
use Rattle.world.specs.World.{files_of}
use Rattle.form.specs.Store.{Given, given, no_store}
use Rattle.lent.specs.declared.Head.{Head}
use Rattle.lent.specs.Lent.{Lent, lent, head_of, laid_lent, leaving, left_of}
use Rattle.opening.specs.Opening.{open_no, log_table, full_table, opened_in, opened_as, opened}
use Rattle.replay.specs.Replay.{laid_from}
use Rattle.opens.specs.Inside.{Loadable, clog_by, store_at_rest, store_by}
use Rattle.opens.specs.Stops.{stopped_by}
use Rattle.opens.proofs.Ways.{out-stopped, ready, out-accepted}
use Rattle.keyon.specs.Keyon.{Wake, waking_of, wakes, opened_lent}
use Rattle.keyon.specs.Inside.{entries_of, tabled, Holds, head_at, head_by, rows_by}
use Rattle.keyon.proofs.Tables.{entries-back}

-- ---- head and rows are those of the store after an accepted opening

head-is : (P : ℕ) (lens : Lens) (st : Option Counters) (a b : List Entry) → head_by P lens st a (length a) b (length b) ≡ head_of (store_by P lens st (tabled a) (tabled b))
unfolding head_at store_at_rest empty_frames empty_touched
head-is P lens (Some m) a b = refl
head-is P lens None a b = refl

laid-is : (P : ℕ) (lens : Lens) (st : Option Counters) (a b : List Entry) (s : Lent) →
    lent (head_of (store_by P lens st (tabled a) (tabled b))) (laid_on s.rows (rows_by st (map row_of a) (map row_of b))) s.resident s.touched
    ≡ laid_lent s (store_by P lens st (tabled a) (tabled b))
unfolding laid_lent store_at_rest empty_frames empty_touched
laid-is P lens (Some m) a b s = rw (list-laid (empty_table 256) b)
laid-is P lens None a b s = rw (list-laid (empty_table 256) a)

-- what is held, read
held-read : (n : ℕ) (rows : List (List ℕ)) (l : List Entry) → Holds n rows l → entries_of n rows ≡ l
held-read n rows l h = rw h.1 (entries-back l)

-- ---- the ways out

module _ (P : ℕ) (lens : Lens) (s : Lent) (log db clog frames : List ℕ) where
  -- what is left by what is opened
  abbrev on_lent : Given (List ℕ) → Wake
  on_lent g = record { value = g.value; left = left_of s g.outcome }

  by-opened : (w : Wake) (g : Given (List ℕ)) → w ≡ on_lent g → g ≡ opened P lens log db clog frames → w ≡ opened_lent P lens s log db clog frames
  unfolding opened_lent
  by-opened w g e h = e ∙ ap on_lent h

  -- refused, or stopped at a bad record
  pub wake-stopped : (r : Refusal) → number_of r ≡ open_no P (files_of lens log db clog) frames →
      (let t = stopped_by P r (file_of log lens.log) (file_of db lens.db) in
      wakes (waking_of s.head (Err t.why)) s.rows s.resident s.touched log t.db clog frames)
      ≡ opened_lent P lens s log db clog frames
  unfolding left_of
  wake-stopped r e =
      let t = stopped_by P r (file_of log lens.log) (file_of db lens.db) in
      by-opened _ (opened_as (opened_in (Err t.why)) log t.db clog frames) (left-same t.why log t.db) (out-stopped P lens log db clog frames r e)
    where
      left-refused : (n : ℕ) → 0 < n → (log db : List ℕ) →
          ◌≡◌ {A = Wake} (record { value = []; left = leaving n s log db clog frames }) (on_lent (given [] (record { number = n; store = no_store }) log db clog frames))
      left-refused zero h log db = absurd (omega arith)
      left-refused (suc n) h log db = refl

      left-same : (u : Unopened) (log db : List ℕ) →
          wakes (waking_of s.head (Err u)) s.rows s.resident s.touched log db clog frames ≡ on_lent (opened_as (opened_in (Err u)) log db clog frames)
      left-same (Refused q) log db = left-refused (number_of q) (number-positive q) log db
      left-same (Torn n) log db = refl
      left-same (Unknown n) log db = refl

  module _ (ok : open_no P (files_of lens log db clog) frames ≡ 0) (n k : ℕ) (logged full : List (List ℕ)) (hl : Holds n logged (log_table P (file_of log lens.log)))
      (hf : Holds k full (full_table P (files_of lens log db clog))) where
    -- what the clog's part asks for
    pub wake-ready : Loadable (file_of clog lens.clog) (entries_of n logged)
    wake-ready =
        let l = log_table P (file_of log lens.log) in
        let r = ready P lens log db clog frames ok (tabled l) refl in
        rw (held-read n logged l hl) (rw (list-laid (empty_table 256) l) at r)

    pub wake-accepted : (d : File) → d ≡ laid_from P (file_of log lens.log) (file_of db lens.db) → (r : Result (Option Counters) Refusal) → stored_told r ≡ meta_in P d → (st : Option Counters) → st ≡ result_unwrap_or r None → (c l : File) →
        c ≡ clog_by st (entries_of n logged) (file_of clog lens.clog) → l ≡ header log_magic (file_of log lens.log) →
        (rows : List (List ℕ)) → rows ≡ laid_on s.rows (rows_by st (take n logged) (take k full)) →
        (h : Head) → h ≡ head_by P (record { log = l.len; db = d.len; clog = c.len }) st (entries_of n logged) n (entries_of k full) k →
        wakes (waking_of s.head (Ok h)) rows s.resident s.touched l.bytes d.bytes c.bytes frames ≡ opened_lent P lens s log db clog frames
    unfolding left_of laid_lent
    wake-accepted d e r es st is c l ec et rows er h eh =
        let a = log_table P (file_of log lens.log) in
        let b = full_table P (files_of lens log db clog) in
        let left : Lens = record { log = l.len; db = d.len; clog = c.len } in
        let u = store_by P left st (tabled a) (tabled b) in
        let x = held-read n logged a hl in
        let y = held-read k full b hf in
        let fc : c ≡ clog_by st (list_of (tabled a)) (file_of clog lens.clog) = rw (list-laid (empty_table 256) a) (rw x at ec) in
        let fr : rows ≡ laid_on s.rows (rows_by st (map row_of a) (map row_of b)) = rw (hl.1, hf.1) at er in
        let fh : h ≡ head_of u = rw (x, y, hl.0, hf.0) at eh ∙ head-is P left st a b in
        let g : lent h rows s.resident s.touched ≡ laid_lent s u = rw (fh, fr) (laid-is P left st a b s) in
        by-opened _ _ (ap (λ (v : Lent). record { value = v.head.lens.db ∷ []; left = leaving 0 v l.bytes d.bytes c.bytes frames }) g)
        (out-accepted P lens log db clog frames ok d e r es st is (tabled a) (tabled b) refl refl c l fc et u refl)
