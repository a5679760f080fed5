-- Laws of an opening, over the page size P: what it leaves, by its number, in lists and for the code's store; that what comes out allows one result only; and
-- the opening of a log that has no records. Assumes nothing.
use mathlib.Core.Path.{◌≡◌, refl, sym, ap, ◌∙◌}
use mathlib.Core.List.{List, [], ◌∷◌, append-nil}
use mathlib.Core.Bool.{Bool, true, false, cond}
use Prim.Native.Nat.{ℕ, zero, suc, ◌/◌, ◌<◌, max}
use native.Mathlib.Omega.{arith}
use lib.Dec.{ltb}
use lib.ListN.{length, drop, length-append}
use borrow.Author.Tests.{ne_eqb}
use Rattle.std.specs.Prelude.{Result, Ok, Err}
use Rattle.fields.proofs.Tests.{or-false}
use Rattle.fields.specs.Bytes.{starts}
use Rattle.fields.specs.Files.{File, content, room, header}
use Rattle.fields.specs.declared.refusal.Refusal.{Refusal}
use Rattle.fields.specs.Refusals.{number_of}
use Rattle.fields.specs.Answers.{Told}
use Rattle.fields.proofs.AnswerLaws.{number-positive, refusal, refusal-number}
use Rattle.fields.proofs.Stored.{starts-means}
use Rattle.sorted.specs.Sorted.{insert_all_by}
use Rattle.wal.specs.Records.{log_magic, records_in, log_of, clean}
use Rattle.wal.proofs.ParseLaws.{parse-none, log-magic, log-other}
use Rattle.table.specs.Entries.{largest_by, largest_id, next64}
use Rattle.clog.specs.Slots.{clog_magic, open_clog, record_all, settled}
use Rattle.meta.specs.Page.{has_meta, stored_next, stored_time, stored_mark, format_no}
use Rattle.world.specs.declared.Lens.{Lens}
use Rattle.world.specs.World.{Files, files_of}
use Rattle.world.specs.Steps.{with_db}
use Rattle.world.specs.Run.{decided}
use Rattle.world.specs.Refusals.{any_of, or_else, bad_buffers}
use Rattle.form.specs.declared.Store.{Store}
use Rattle.form.specs.Store.{Changed, laid_store, Given, given, no_store}
use Rattle.form.proofs.Called.{given-same}
use Rattle.form.proofs.Worlds.{world-laid, world_in}
use Rattle.opening.specs.declared.Unopened.{Unopened}
use Rattle.opening.specs.declared.Unopened.TheVariants.{Refused, Torn, Unknown}
use Rattle.opening.specs.Opening.{records, end_no, replay, replayed, statuses, log_table, clog_table, full_table, open_room_no, open_no, log_time, at_rest, with_meta, without_meta, opened_world, has_laid, left_by, unopened, opening, verdict_told, opened_in, opened_as, opened}

-- ---- what an opening leaves, by its number

module _ (P : ℕ) (f : Files) (frames : List ℕ) where
  -- with a meta page and without, the database is as replay left it
  pub world-db : (opened_world P f frames).files.db ≡ replayed P f
  unfolding opened_world with_meta without_meta
  world-db = go (has_meta P (content (replayed P f)))
    where
      go : (x : Bool) → (cond x (with_meta P f frames) (without_meta P f frames)).files.db ≡ replayed P f
      go true = refl
      go false = refl

  pub world-meta : has_meta P (content (replayed P f)) ≡ true → opened_world P f frames ≡ with_meta P f frames
  unfolding opened_world
  world-meta h = rw h

  pub world-plain : has_meta P (content (replayed P f)) ≡ false → opened_world P f frames ≡ without_meta P f frames
  unfolding opened_world
  world-plain h = rw h

  pub accepted : open_no P f frames ≡ 0 → opening P f frames ≡ record { number = 0; db = (replayed P f).len; world = opened_world P f frames }
  unfolding opening
  accepted e = rw (e, world-db)

  -- a refusal other than 2 and 3 leaves all three files alone
  pub refused-alone : (n : ℕ) → open_no P f frames ≡ suc n → has_laid (suc n) ≡ false →
      opening P f frames ≡ record { number = suc n; db = f.db.len; world = unopened f frames }
  unfolding opening left_by
  refused-alone n e h = rw (e, h)

  -- 2 and 3 lay the images into the database, and leave log and clog alone
  pub refused-laid : (n : ℕ) → open_no P f frames ≡ suc n → has_laid (suc n) ≡ true →
      opening P f frames ≡ record { number = suc n; db = (replayed P f).len; world = unopened (with_db (replayed P f) f) frames }
  unfolding opening left_by
  refused-laid n e h = rw (e, h)

  -- no opening changes a byte of the frame buffer
  pub frames-stay : (opening P f frames).world.frames ≡ frames
  unfolding opening opened_world with_meta without_meta
  frames-stay = go (open_no P f frames) (has_meta P (content (replayed P f)))
    where
      go : (n : ℕ) (x : Bool) → (decided n (cond x (with_meta P f frames) (without_meta P f frames)) (unopened (left_by P n f) frames)).frames ≡ frames
      go zero true = refl
      go zero false = refl
      go (suc n) x = refl

-- ---- the same for the code: one law for each way out

module _ (P : ℕ) (lens : Lens) (log db clog frames : List ℕ) where
  pub opened-refused : (r : Refusal) → open_no P (files_of lens log db clog) frames ≡ number_of r → has_laid (number_of r) ≡ false →
      opened_as (opened_in (Err (Refused r))) log db clog frames ≡ opened P lens log db clog frames
  unfolding opened
  opened-refused r e h = go (number_of r) (number-positive r) e h
    where
      go : (n : ℕ) → 0 < n → open_no P (files_of lens log db clog) frames ≡ n → has_laid n ≡ false →
          given [] (record { number = n; store = no_store }) log db clog frames ≡ opened P lens log db clog frames
      go zero p e h = absurd (omega arith)
      go (suc n) p e h = rw (refused-alone P (files_of lens log db clog) frames n e h, h, ne_eqb (suc n) 0 (λ z. omega arith))

  pub opened-torn : open_no P (files_of lens log db clog) frames ≡ 2 →
      (let d = replayed P (files_of lens log db clog) in opened_as (opened_in (Err (Torn d.len))) log d.bytes clog frames)
      ≡ opened P lens log db clog frames
  unfolding opened
  opened-torn e = rw (refused-laid P (files_of lens log db clog) frames 1 e refl)

  pub opened-unknown : open_no P (files_of lens log db clog) frames ≡ 3 →
      (let d = replayed P (files_of lens log db clog) in opened_as (opened_in (Err (Unknown d.len))) log d.bytes clog frames)
      ≡ opened P lens log db clog frames
  unfolding opened
  opened-unknown e = rw (refused-laid P (files_of lens log db clog) frames 2 e refl)

  pub opened-accepted : open_no P (files_of lens log db clog) frames ≡ 0 →
      (let w = opened_world P (files_of lens log db clog) frames in
      opened_as (opened_in (Ok (laid_store no_store w))) w.files.log.bytes w.files.db.bytes w.files.clog.bytes w.frames)
      ≡ opened P lens log db clog frames
  unfolding opened laid_store
  opened-accepted e =
      let f = files_of lens log db clog in
      let w = opened_world P f frames in
      ap (λ (d : File). given (d.len ∷ []) (record { number = 0; store = laid_store no_store w }) w.files.log.bytes w.files.db.bytes w.files.clog.bytes w.frames) (world-db P f frames)
      ∙ rw (accepted P f frames e)

  -- read as a world, the store that comes out is the opened one
  pub opened-world : open_no P (files_of lens log db clog) frames ≡ 0 →
      world_in (opened P lens log db clog frames).outcome ≡ opened_world P (files_of lens log db clog) frames
  unfolding opened
  opened-world e =
      rw (accepted P (files_of lens log db clog) frames e) (world-laid no_store (opened_world P (files_of lens log db clog) frames))

-- ---- two results with one outcome are the same

-- the verdict that tells a number and values
untold : Told → Result ℕ Unopened
untold t = go t.number t.values
  where
    go : ℕ → List ℕ → Result ℕ Unopened
    go n [] = Err (Refused (refusal n))
    go zero (v ∷ vs) = Ok v
    go (suc zero) (v ∷ vs) = Ok v
    go (suc (suc zero)) (v ∷ vs) = Err (Torn v)
    go (suc (suc (suc n))) (v ∷ vs) = Err (Unknown v)

untold-told : (v : Result ℕ Unopened) → untold (verdict_told v) ≡ v
unfolding untold
untold-told (Ok db) = refl
untold-told (Err (Refused r)) = rw (refusal-number r)
untold-told (Err (Torn db)) = refl
untold-told (Err (Unknown db)) = refl

pub verdict-same : (a b : Result ℕ Unopened) → (verdict_told a).number ≡ (verdict_told b).number → (verdict_told a).values ≡ (verdict_told b).values → a ≡ b
verdict-same a b e h =
    let n = ap (λ (k : ℕ). untold (record { number = k; values = (verdict_told a).values })) e in
    let v = ap (λ (l : List ℕ). untold (record { number = (verdict_told b).number; values = l })) h in
    sym (untold-told a) ∙ n ∙ v ∙ untold-told b

result-same : (r s : Result Store Unopened) → (opened_in r).verdict ≡ (opened_in s).verdict → (opened_in r).store ≡ (opened_in s).store → r ≡ s
result-same (Ok a) (Ok b) v t = ap (λ x. Ok x) t
result-same (Ok a) (Err u) v t = cc
result-same (Err u) (Ok b) v t = cc
result-same (Err u) (Err w) v t = let e : u ≡ w = cc in ap (λ x. Err x) e

pub opened-same : (r s : Result Store Unopened) (log log' db db' clog clog' frames frames' : List ℕ) (o : Given (List ℕ)) →
    opened_as (opened_in r) log db clog frames ≡ o → opened_as (opened_in s) log' db' clog' frames' ≡ o →
    (r ≡ s) × (log ≡ log') × (db ≡ db') × (clog ≡ clog') × (frames ≡ frames')
opened-same r s log log' db db' clog clog' frames frames' o e h =
    let g = given-same _ _ log log' db db' clog clog' frames frames' _ _ o e h in
    let v = verdict-same (opened_in r).verdict (opened_in s).verdict (ap (λ (c : Changed). c.number) g.1.results) g.0 in
    let t = ap (λ (c : Changed). c.store) g.1.results in
    (result-same r s v t, g.1.logs, g.1.dbs, g.1.clogs, g.1.buffers)

-- ---- a log that has no records: it has 0 bytes, or 1 to 7, or another magic, or nothing after the magic

pub record Bare (P : ℕ) (log : File) : Type 0 where
  pub none : records P log ≡ []
  pub whole : end_no P log ≡ 0

bare : (P : ℕ) (log : File) → log_of P (content log) ≡ record { found = []; ending = clean } → Bare P log
unfolding records_in
bare P log e = record { none = rw e; whole = rw e }

pub bare-other : (P : ℕ) (log : File) → starts log_magic (content log) ≡ false → Bare P log
bare-other P log h = bare P log (log-other P (content log) h)

pub bare-short : (P : ℕ) (log : File) → length (content log) < 8 → Bare P log
bare-short P log h = go (starts log_magic (content log)) refl
  where
    go : (x : Bool) → starts log_magic (content log) ≡ x → Bare P log
    go false e = bare-other P log e
    go true e =
        let n : length log_magic ≡ 8 = unfold log_magic in refl in
        let l = ap length (starts-means log_magic (content log) e) in
        absurd (omega (arith, l, length-append log_magic (drop (length log_magic) (content log))))

pub bare-magic : (P : ℕ) (log : File) → content log ≡ log_magic → Bare P log
bare-magic P log e = bare P log (rw e (rw append-nil at (log-magic P []) ∙ parse-none P 8))

pub or-zero : (n : ℕ) → or_else n 0 ≡ n
or-zero zero = refl
or-zero (suc n) = refl

module _ (P : ℕ) (f : Files) (b : Bare P f.log) where
  pub bare-replayed : replayed P f ≡ f.db
  unfolding replayed replay
  bare-replayed = rw b.none

  pub bare-table : log_table P f.log ≡ []
  unfolding log_table statuses insert_all_by
  bare-table = rw b.none

  pub bare-time : log_time P f.log ≡ 1
  unfolding log_time largest_by
  bare-time = rw bare-table

  pub bare-full : full_table P f ≡ clog_table f.clog
  unfolding full_table insert_all_by
  bare-full = rw bare-table

  module _ (frames : List ℕ) where
    pub bare-no : open_no P f frames ≡
        cond (bad_buffers P f frames) 1
        (or_else (format_no P f.db)
        (cond (ltb (room f.log) 8) 4 (cond (ltb (room f.clog) 8) 6 (cond (ltb 256 (length (clog_table f.clog))) 7 0))))
    unfolding open_no open_room_no any_of statuses
    bare-no = rw (b.none, b.whole, or-zero, or-false, bare-full)

    -- with a meta page: what the clog and page 0 hold
    pub bare-meta : has_meta P (content f.db) ≡ true → opened_world P f frames ≡
        record {
          files = record { log = header log_magic f.log; db = f.db; clog = settled 8 (open_clog f.clog) };
          frames = frames;
          mem =
              at_rest (f.db.len / P) (max 1 (max (stored_next (content f.db)) (next64 (largest_id (clog_table f.clog)))))
              (max (stored_time (content f.db)) 1) (stored_mark (content f.db)) (clog_table f.clog);
        }
    unfolding opened_world with_meta record_all
    bare-meta h = rw (bare-replayed, h, bare-table, bare-full, bare-time)

    -- without: nothing
    pub bare-plain : has_meta P (content f.db) ≡ false → opened_world P f frames ≡
        record {
          files = record { log = header log_magic f.log; db = f.db; clog = header clog_magic f.clog };
          frames = frames;
          mem = at_rest (f.db.len / P) 1 1 0 [];
        }
    unfolding opened_world without_meta
    bare-plain h = rw (bare-replayed, h, bare-table, bare-time)
