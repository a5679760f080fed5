-- Laws for the ways out of `open`, over the page size P: refused with nothing changed, stopped at a bad record with the images laid, and accepted.
-- The premises are what the functions that it calls promise. Assumes nothing.
use mathlib.Core.Path.{◌≡◌, refl, sym, ap, ◌∙◌}
use mathlib.Core.List.{List}
use mathlib.Core.Bool.{Bool, true, false, cond}
use Prim.Native.Nat.{ℕ, ◌≤◌}
use native.Mathlib.Omega.{arith}
use borrow.Author.Tests.{le-ltb, ne_eqb}
use lib.ListN.{length, get_or}
use Rattle.std.specs.Prelude.{Option, Some, None, Result, Ok, Err}
use Rattle.std.specs.Result.{result_err, result_unwrap_or}
use Rattle.fields.specs.declared.refusal.Refusal.{Refusal}
use Rattle.fields.specs.declared.refusal.Refusal.TheVariants as refusal
use Rattle.fields.specs.Refusals.{number_of}
use Rattle.fields.proofs.AnswerLaws.{number-positive, number-same}
use Rattle.fields.specs.Files.{File, file_of, content, room, header, unfit}
use Rattle.fields.specs.Answers.{length_of, Told, outcome}
use Rattle.fields.proofs.Tests.{Equal, equal, other, equality}
use Rattle.wal.specs.Records.{log_magic}
use Rattle.wal.specs.Writing.{truncate_no, truncated}
use Rattle.table.specs.declared.Table.{Table}
use Rattle.table.specs.Entries.{empty_table, list_of, laid}
use Rattle.table.proofs.Facts.{list-laid}
use Rattle.clog.specs.Calls.{table_by}
use Rattle.meta.specs.declared.Counters.{Counters}
use Rattle.meta.specs.Page.{has_meta, stored_next, stored_time, stored_mark, stored_told, meta_in}
use Rattle.frames.specs.Pages.{empty_frames, empty_touched}
use Rattle.world.specs.declared.Lens.{Lens}
use Rattle.world.specs.World.{files_of}
use Rattle.world.specs.Refusals.{bad_buffers}
use Rattle.world.proofs.FormLaws.{none_of}
use Rattle.form.specs.declared.Store.{Store}
use Rattle.form.specs.Store.{laid_store, no_store}
use Rattle.opening.specs.declared.Unopened.{Unopened}
use Rattle.opening.specs.declared.Unopened.TheVariants.{Refused, Torn, Unknown}
use Rattle.opening.specs.Opening.{records, replayed, log_table, full_table, open_no, log_time, with_meta, without_meta, opened_in, opened_as, opened}
use Rattle.opening.proofs.Laws.{world-meta, world-plain, opened-refused, opened-torn, opened-unknown, opened-accepted}
use Rattle.opening.proofs.Tables.{clog-within}
use Rattle.opening.proofs.Replays.{replay-room, replay-fits}
use Rattle.opening.proofs.Formed.{no-means, ids-fit}
use Rattle.scan.specs.declared.Tables.{Tables}
use Rattle.scan.specs.Surveys.{Surveyed, surveyed_of, surveyed}
use Rattle.scan.proofs.Surveys.{clog-fits}
use Rattle.replay.specs.Replay.{laid_from}
use Rattle.opens.specs.Inside.{Loadable, clog_by, meta_counters, plain_counters, store_at_rest, store_by}
use Rattle.opens.specs.Stops.{Stopped, stopped, stopped_by}
use Rattle.opens.proofs.Clogs.{answered, none-past}

-- ---- why there is no store

pub stopped-same : (a b : Unopened) (xs ys : List ℕ) → stopped a xs ≡ stopped b ys → (a ≡ b) × (xs ≡ ys)
stopped-same a b xs ys e = (ap (λ (s : Stopped). s.why) e, ap (λ (s : Stopped). s.db) e)

pub stops-torn : (P : ℕ) (r : Refusal) (log db d : File) → r ≡ refusal.Torn → d ≡ laid_from P log db →
    stopped (Torn d.len) d.bytes ≡ stopped_by P r log db
unfolding stopped_by
stops-torn P r log db d e h = rw (e, h)

pub stops-unknown : (P : ℕ) (r : Refusal) (log db d : File) → r ≡ refusal.UnknownTag → d ≡ laid_from P log db →
    stopped (Unknown d.len) d.bytes ≡ stopped_by P r log db
unfolding stopped_by
stops-unknown P r log db d e h = rw (e, h)

pub stops-refused : (P : ℕ) (r : Refusal) (log db : File) → (r ≡ refusal.Torn → ⊥) → (r ≡ refusal.UnknownTag → ⊥) →
    stopped (Refused r) db.bytes ≡ stopped_by P r log db
unfolding stopped_by
stops-refused P r log db t u =
    rw (ne_eqb (number_of r) 2 (λ e. t (number-same r refusal.Torn e)), ne_eqb (number_of r) 3 (λ e. u (number-same r refusal.UnknownTag e)))

-- ---- what the survey says: a refusal, or the tables to go on with

-- the number of a refusal, 0 where there is none
abbrev number_told : Option Refusal → ℕ
number_told None = 0
number_told (Some r) = number_of r

pub told-by : (x : Result Tables Refusal) (r : Refusal) (s : Surveyed) → result_err x ≡ Some r → surveyed_of x ≡ s → number_of r ≡ s.number
told-by x r s h e = sym (ap number_told h) ∙ go x ∙ ap (λ (s : Surveyed). s.number) e
  where
    go : (x : Result Tables Refusal) → number_told (result_err x) ≡ (surveyed_of x).number
    go (Ok t) = refl
    go (Err r) = refl

pub tables-by : (x : Result Tables Refusal) (d t : Tables) (o : Option Refusal) (s : Surveyed) → o ≡ result_err x → ((r : Refusal) → o ≡ Some r → ⊥) → t ≡ result_unwrap_or x d
    → surveyed_of x ≡ s → surveyed_of (Ok t) ≡ s
tables-by (Ok u) d t o s e n h k = rw h k
tables-by (Err r) d t o s e n h k = absurd (n r e)

-- ---- what page 0 holds

abbrev counters_in : List ℕ → Counters
counters_in xs = record { next = record { 0 = stored_next xs }; time = record { 0 = stored_time xs }; mark = record { 0 = stored_mark xs } }

data Holds (P : ℕ) (d : File) (st : Option Counters) : Type 0 where
  counters : has_meta P (content d) ≡ true → st ≡ Some (counters_in (content d)) → Holds P d st
  none : has_meta P (content d) ≡ false → st ≡ None → Holds P d st

same-counters : (m k : Counters) → m.next.0 ≡ k.next.0 → m.time.0 ≡ k.time.0 → m.mark.0 ≡ k.mark.0 → m ≡ k
same-counters m k a b c =
    ap (λ (n : ℕ). record { next = record { 0 = n }; time = m.time; mark = m.mark }) a
    ∙ ap (λ (n : ℕ). record { next = k.next; time = record { 0 = n }; mark = m.mark }) b
    ∙ ap (λ (n : ℕ). record { next = k.next; time = k.time; mark = record { 0 = n } }) c

holds : (P : ℕ) (d : File) (st : Result (Option Counters) Refusal) → unfit 16777216 (room d) d.len ≡ false → stored_told st ≡ meta_in P d →
    Holds P d (result_unwrap_or st None)
unfolding meta_in
holds P d st u e = go st (has_meta P (content d)) refl (rw u at e)
  where
    go : (st : Result (Option Counters) Refusal) (x : Bool) → has_meta P (content d) ≡ x →
        stored_told st ≡ cond x (stored_told (Ok (Some (counters_in (content d))))) (stored_told (Ok None)) → Holds P d (result_unwrap_or st None)
    go (Ok (Some m)) true h e =
        counters h
        (ap (λ m. Some m)
        (same-counters m (counters_in (content d)) (ap (λ (t : Told). get_or t.values 0 0) e) (ap (λ (t : Told). get_or t.values 1 0) e)
        (ap (λ (t : Told). get_or t.values 2 0) e)))
    go (Ok None) true h e = let z : ◌≡◌ {A = ℕ} 0 3 = ap (λ (t : Told). length t.values) e in absurd (omega arith)
    go (Err r) true h e = let z : number_of r ≡ 0 = ap (λ (t : Told). t.number) e in absurd (omega (arith, number-positive r))
    go (Ok (Some m)) false h e = let z : ◌≡◌ {A = ℕ} 3 0 = ap (λ (t : Told). length t.values) e in absurd (omega arith)
    go (Ok None) false h e = none h refl
    go (Err r) false h e = let z : number_of r ≡ 0 = ap (λ (t : Told). t.number) e in absurd (omega (arith, number-positive r))

module _ (P : ℕ) (lens : Lens) (log db clog frames : List ℕ) where
  -- ---- the images are laid

  not-bad : (open_no P (files_of lens log db clog) frames ≡ 1 → ⊥) → bad_buffers P (files_of lens log db clog) frames ≡ false
  unfolding open_no
  not-bad h = go (bad_buffers P (files_of lens log db clog) frames) refl
    where
      go : (x : Bool) → bad_buffers P (files_of lens log db clog) frames ≡ x → bad_buffers P (files_of lens log db clog) frames ≡ false
      go true e = absurd (h (rw e))
      go false e = e

  module _ (n : ℕ) (ok : open_no P (files_of lens log db clog) frames ≡ n) (apart : n ≡ 1 → ⊥) where
    all_laid : laid_from P (file_of log lens.log) (file_of db lens.db) ≡ replayed P (files_of lens log db clog)
    unfolding laid_from replayed bad_buffers
    all_laid = rw (none_of _ 0 (not-bad (λ h. apart (sym ok ∙ h))))

  -- ---- refused: with nothing changed, or stopped at a bad record

  pub out-stopped : (r : Refusal) → number_of r ≡ open_no P (files_of lens log db clog) frames →
      (let s = stopped_by P r (file_of log lens.log) (file_of db lens.db) in opened_as (opened_in (Err s.why)) log s.db clog frames)
      ≡ opened P lens log db clog frames
  unfolding stopped_by
  out-stopped r e = go (equality (number_of r) 2) (equality (number_of r) 3)
    where
      go : Equal (number_of r) 2 → Equal (number_of r) 3 →
          (let s = stopped_by P r (file_of log lens.log) (file_of db lens.db) in opened_as (opened_in (Err s.why)) log s.db clog frames)
          ≡ opened P lens log db clog frames
      go (equal t) u = let ok = sym e ∙ t in rw (t, all_laid 2 ok (λ z. omega arith)) (opened-torn P lens log db clog frames ok)
      go (other t) (equal u) = let ok = sym e ∙ u in rw (u, all_laid 3 ok (λ z. omega arith)) (opened-unknown P lens log db clog frames ok)
      go (other t) (other u) =
          let a = ne_eqb (number_of r) 2 t in
          let b = ne_eqb (number_of r) 3 u in
          rw (a, b) (opened-refused P lens log db clog frames r (sym e) (rw (a, b)))

  -- ---- accepted

  module _ (ok : open_no P (files_of lens log db clog) frames ≡ 0) where
    -- the tables that the survey read
    pub logged-is : (s : Surveyed) → s ≡ surveyed P (files_of lens log db clog) frames → s.logged ≡ laid (empty_table 256) (log_table P (file_of log lens.log))
    unfolding surveyed table_by
    logged-is s e = rw (e, ok)

    pub full_is : (s : Surveyed) → s ≡ surveyed P (files_of lens log db clog) frames → s.full ≡ laid (empty_table 256) (full_table P (files_of lens log db clog))
    unfolding surveyed table_by
    full_is s e = rw (e, ok)

    -- what the clog's part asks for
    pub ready : (logged : Table) → logged ≡ laid (empty_table 256) (log_table P (file_of log lens.log)) → Loadable (file_of clog lens.clog) (list_of logged)
    ready logged e =
        let f = files_of lens log db clog in
        let p = no-means P f frames ok in
        let l : list_of logged ≡ log_table P (file_of log lens.log) = rw e (list-laid (empty_table 256) (log_table P (file_of log lens.log))) in (
          clog-fits P f frames (not-bad (λ h. omega arith)),
          p.clog-room,
          omega (arith, p.entries, clog-within P f),
          rw l (none-past (length clog) (log_table P (file_of log lens.log)) (ids-fit P f frames p)),
        )

    -- the log is cut back to its magic
    cut-zero : truncate_no (length log) lens.log ≡ 0
    unfolding truncate_no bad_buffers
    cut-zero =
        let p = no-means P (files_of lens log db clog) frames ok in
        rw (none_of _ 0 (not-bad (λ h. omega arith)), le-ltb (length log) 8 p.log-room)

    pub is_cut : (r : Result ℕ Refusal) (out : List ℕ) → outcome r out ≡ truncated (file_of log lens.log) →
        file_of out (length_of r) ≡ header log_magic (file_of log lens.log)
    unfolding truncated
    is_cut r out e = answered r out _ _ _ cut-zero e

    module _ (d : File) (e : d ≡ laid_from P (file_of log lens.log) (file_of db lens.db)) where
      is-replayed : d ≡ replayed P (files_of lens log db clog)
      is-replayed = e ∙ all_laid 0 ok (λ z. omega arith)

      in-room : (room d ≡ length db) × (d.len ≤ length db)
      unfolding replayed
      in-room =
          let p = no-means P (files_of lens log db clog) frames ok in
          let rs = records P (file_of log lens.log) in
          rw is-replayed (replay-room P rs (file_of db lens.db), replay-fits P rs (file_of db lens.db) p.images p.db-len)

      pub db-small : d.len ≤ 16777216
      db-small = omega (arith, in-room.1, (no-means P (files_of lens log db clog) frames ok).db-size)

      db-fits : unfit 16777216 (room d) d.len ≡ false
      unfolding unfit
      db-fits =
          let p = no-means P (files_of lens log db clog) frames ok in
          let a : room d ≤ 16777216 = omega (arith, in-room.0, p.db-size) in
          let b : d.len ≤ room d = omega (arith, in-room.0, in-room.1) in
          rw (le-ltb 16777216 (room d) a, le-ltb (room d) d.len b)

      module _ (r : Result (Option Counters) Refusal) (es : stored_told r ≡ meta_in P d) (st : Option Counters) (is : st ≡ result_unwrap_or r None) (logged full : Table) (el : logged ≡ laid (empty_table 256) (log_table P (file_of log lens.log)))
          (ef : full ≡ laid (empty_table 256) (full_table P (files_of lens log db clog))) (c l : File)
          (ec : c ≡ clog_by st (list_of logged) (file_of clog lens.clog)) (et : l ≡ header log_magic (file_of log lens.log)) (s : Store)
          (eq : s ≡ store_by P (record { log = l.len; db = d.len; clog = c.len }) st logged full) where
        -- with a meta page, and without
        with-store : has_meta P (content d) ≡ true → st ≡ Some (counters_in (content d)) →
            (c ≡ (with_meta P (files_of lens log db clog) frames).files.clog) × (s ≡ laid_store no_store (with_meta P (files_of lens log db clog) frames))
        unfolding store_at_rest meta_counters with_meta log_time laid_store no_store empty_frames empty_touched
        with-store h k =
            let c' : c ≡ (with_meta P (files_of lens log db clog) frames).files.clog = ec ∙ rw (k, el, list-laid) in
            (c', eq ∙ rw (k, c', et, el, ef, list-laid, list-laid, is-replayed))

        plain-store : has_meta P (content d) ≡ false → st ≡ None →
            (c ≡ (without_meta P (files_of lens log db clog) frames).files.clog) × (s ≡ laid_store no_store (without_meta P (files_of lens log db clog) frames))
        unfolding store_at_rest plain_counters without_meta log_time laid_store no_store empty_frames empty_touched
        plain-store h k =
            let c' : c ≡ (without_meta P (files_of lens log db clog) frames).files.clog = ec ∙ rw k in
            (c', eq ∙ rw (k, c', et, el, list-laid, is-replayed))

        pub out-accepted : opened_as (opened_in (Ok s)) l.bytes d.bytes c.bytes frames
            ≡ opened P lens log db clog frames
        unfolding with_meta without_meta
        out-accepted = go (rw is (holds P d r db-fits es))
          where
            go : Holds P d st →
                opened_as (opened_in (Ok s)) l.bytes d.bytes c.bytes frames ≡ opened P lens log db clog frames
            go (counters h k) =
                let w = with-store h k in
                let m : has_meta P (content (replayed P (files_of lens log db clog))) ≡ true = rw is-replayed at h in
                rw (w.1, w.0, et, is-replayed) (rw (world-meta P (files_of lens log db clog) frames m) at (opened-accepted P lens log db clog frames ok))
            go (none h k) =
                let w = plain-store h k in
                let m : has_meta P (content (replayed P (files_of lens log db clog))) ≡ false = rw is-replayed at h in
                rw (w.1, w.0, et, is-replayed) (rw (world-plain P (files_of lens log db clog) frames m) at (opened-accepted P lens log db clog frames ok))
