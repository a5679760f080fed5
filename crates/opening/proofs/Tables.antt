-- Laws of the tables of an opening, over the page size P: the log's is the last word of its records on each id, Active become Aborted; a valid clog's is its
-- slots; and the table of a store that was opened with a meta page is exactly the clog's with the log's laid over it. Assumes nothing.
use mathlib.Core.Path.{◌≡◌, refl, sym, ◌∙◌, subst}
use mathlib.Core.List.{List, [], ◌∷◌, ◌++◌, append-nil, append_assoc}
use mathlib.Core.Bool.{Bool, true, false, cond}
use Prim.Native.Nat.{ℕ, ◌≤◌}
use lib.ListN.{length}
use Rattle.sorted.specs.Sorted.{look_by, insert_all_by, ascending_by}
use Rattle.fields.specs.Files.{File, content}
use Rattle.fields.proofs.Tests.{Equal, equal, other, equality}
use Rattle.wal.specs.Records.{Record, image, begin, commit, abort, checkpoint}
use Rattle.table.specs.declared.Status.{Status}
use Rattle.table.specs.declared.Status.TheVariants.{Active}
use Rattle.table.specs.declared.Entry.{Entry}
use Rattle.std.specs.Prelude.{Option, Some, None}
use Rattle.table.specs.Entries.{id_of, insert_entry, insert_all, ascending, status_of}
use Rattle.table.proofs.Facts.{status-set, status-kept, over-ascending, over-grows, over-status, settle-ascending, settle-status, settle-unfound, or_known, settled_known, or-known, or-absent, no-status, own-status, past-status}
use Rattle.clog.specs.Slots.{slot_of, valid_clog, entries_in}
use Rattle.clog.proofs.TableLaws.{known_as, load-ascending, load-status-plain}
use Rattle.meta.specs.Page.{has_meta}
use Rattle.world.specs.World.{Files}
use Rattle.opening.specs.Opening.{records, replayed, noted, statuses, log_table, clog_table, full_table, open_no, with_meta, without_meta, opening}
use Rattle.opening.proofs.Laws.{accepted, world-meta, world-plain}
use Rattle.sorted.proofs.Covers.{over-covers}

-- ---- the log's table

-- the last word of records on an id
unfoldable pub last_word : ℕ → List Record → Option Status
last_word k [] = None
last_word k (r ∷ rs) = or_known (last_word k rs) (status_of k (noted r))

-- what one entry says of another id
pub other_word : (k : ℕ) (e : Entry) → (id_of e ≡ k → ⊥) → status_of k (e ∷ []) ≡ None
other_word k e n = past-status k e [] n ∙ no-status k

-- records one after another
pub word-append : (k : ℕ) (rs ss : List Record) → last_word k (rs ++ ss) ≡ or_known (last_word k ss) (last_word k rs)
unfolding last_word
word-append k [] ss = sym (or-absent (last_word k ss))
word-append k (r ∷ rs) ss = rw (word-append k rs ss) (or-known (last_word k ss) (last_word k rs) (status_of k (noted r)))

pub statuses-append : (rs ss : List Record) → statuses (rs ++ ss) ≡ statuses rs ++ statuses ss
unfolding statuses
statuses-append [] ss = refl
statuses-append (r ∷ rs) ss = rw (statuses-append rs ss) (sym (append_assoc (noted r) (statuses rs) (statuses ss)))

-- one more record: it has the last word
pub word_more : (k : ℕ) (rs : List Record) (r : Record) → last_word k (rs ++ (r ∷ [])) ≡ or_known (status_of k (noted r)) (last_word k rs)
unfolding last_word
word_more k rs r = word-append k rs (r ∷ [])

pub statuses-more : (rs : List Record) (r : Record) → statuses (rs ++ (r ∷ [])) ≡ statuses rs ++ noted r
unfolding statuses
statuses-more rs r = statuses-append rs (r ∷ []) ∙ rw append-nil

pub word_none : (k : ℕ) → last_word k [] ≡ None
unfolding last_word
word_none k = refl

-- set in a table it says its own word, and else what the table said
one_word : (k : ℕ) (e : Entry) (l : List Entry) → status_of k (insert_entry e l) ≡ or_known (status_of k (e ∷ [])) (status_of k l)
one_word k e l = go (equality (id_of e) k)
  where
    go : Equal (id_of e) k → status_of k (insert_entry e l) ≡ or_known (status_of k (e ∷ [])) (status_of k l)
    go (equal p) =
        subst (λ (j : ℕ). status_of j (insert_entry e l) ≡ or_known (status_of j (e ∷ [])) (status_of j l)) p (status-set e l ∙ rw (own-status e []))
    go (other n) = status-kept e l k n ∙ rw (other_word k e n)

-- records one after the other: the last word stands, and else what the table said
Words : ℕ → List Record → Type 0
Words k rs = (l : List Entry) → status_of k (insert_all (statuses rs) l) ≡ or_known (last_word k rs) (status_of k l)

more-words : (k : ℕ) (r : Record) (rs : List Record) → Words k rs → Words k (r ∷ rs)
unfolding Words statuses insert_all_by last_word
more-words k r rs ih l = go r
  where
    set : (e : Entry) → status_of k (insert_all (statuses rs) (insert_entry e l)) ≡ or_known (or_known (last_word k rs) (status_of k (e ∷ []))) (status_of k l)
    set e = ih (insert_entry e l) ∙ rw (one_word k e l) (sym (or-known (last_word k rs) (status_of k (e ∷ [])) (status_of k l)))

    same : status_of k (insert_all (statuses rs) l) ≡ or_known (or_known (last_word k rs) (status_of k [])) (status_of k l)
    same = ih l ∙ rw (no-status k, or-absent (last_word k rs))

    go : (r : Record) → status_of k (insert_all (noted r ++ statuses rs) l) ≡ or_known (or_known (last_word k rs) (status_of k (noted r))) (status_of k l)
    go (image page bytes) = same
    go (begin id) = set _
    go (commit id time) = set _
    go (abort id) = set _
    go checkpoint = same

words : (k : ℕ) (rs : List Record) → Words k rs
unfolding Words statuses insert_all_by last_word
words k [] l = refl
words k (r ∷ rs) l = more-words k r rs (words k rs) l

module _ (P : ℕ) (log : File) where
  pub log-ascending : ascending (log_table P log) ≡ true
  unfolding log_table ascending_by
  log-ascending = settle-ascending (insert_all (statuses (records P log)) []) ∙ over-ascending (statuses (records P log)) [] refl

  pub log-word : (k : ℕ) → status_of k (log_table P log) ≡ settled_known (last_word k (records P log))
  unfolding log_table Words
  log-word k =
      let e : status_of k (insert_all (statuses (records P log)) []) ≡ or_known (last_word k (records P log)) (status_of k []) = words k (records P log) [] in
      settle-status k (insert_all (statuses (records P log)) []) ∙ rw (e, no-status k, or-absent (last_word k (records P log)))

  -- no entry of it is Active
  pub log-settled : (k : ℕ) → status_of k (log_table P log) ≡ Some Active → ⊥
  unfolding log_table
  log-settled k = settle-unfound k (insert_all (statuses (records P log)) [])

-- ---- what a valid clog holds

module _ (clog : File) where
  pub clog-none : valid_clog clog ≡ false → clog_table clog ≡ []
  unfolding clog_table
  clog-none v = rw v

  pub clog-held : valid_clog clog ≡ true → clog_table clog ≡ entries_in 8 0 (content clog)
  unfolding clog_table
  clog-held v = rw v

  pub clog-ascending : ascending (clog_table clog) ≡ true
  unfolding clog_table ascending_by
  clog-ascending = go (valid_clog clog)
    where
      go : (x : Bool) → ascending (cond x (entries_in 8 0 (content clog)) []) ≡ true
      go true = load-ascending 8 0 (content clog)
      go false = refl

  pub clog-word : (k : ℕ) → status_of k (clog_table clog) ≡ cond (valid_clog clog) (known_as (slot_of 8 (content clog) k)) None
  unfolding clog_table status_of look_by
  clog-word k = go (valid_clog clog)
    where
      go : (x : Bool) → status_of k (cond x (entries_in 8 0 (content clog)) []) ≡ cond x (known_as (slot_of 8 (content clog) k)) None
      go true = load-status-plain 8 (content clog) k
      go false = refl

-- ---- the one laid over the other

module _ (P : ℕ) (f : Files) where
  pub full-ascending : ascending (full_table P f) ≡ true
  unfolding full_table
  full-ascending = over-ascending (log_table P f.log) (clog_table f.clog) (clog-ascending f.clog)

  -- the log's word on an id stands where it has one, else the clog's
  pub full-word : (k : ℕ) → status_of k (full_table P f) ≡ or_known (status_of k (log_table P f.log)) (status_of k (clog_table f.clog))
  unfolding full_table
  full-word k = over-status (log_table P f.log) (clog_table f.clog) k (log-ascending P f.log)

  -- the same by the log's records
  pub full-by-word : (t : ℕ) → status_of t (full_table P f) ≡ or_known (settled_known (last_word t (records P f.log))) (status_of t (clog_table f.clog))
  full-by-word t = full-word t ∙ rw (log-word P f.log t)

  -- no longer than both together: where one of them passes a limit, so does the whole
  pub log-within : length (log_table P f.log) ≤ length (full_table P f)
  unfolding full_table
  log-within = over-covers id_of (log_table P f.log) (clog_table f.clog) (log-ascending P f.log) (clog-ascending f.clog)

  pub clog-within : length (clog_table f.clog) ≤ length (full_table P f)
  unfolding full_table
  clog-within = over-grows (log_table P f.log) (clog_table f.clog)

  -- ---- the table of an opened store

  module _ (frames : List ℕ) (ok : open_no P f frames ≡ 0) where
    pub meta-table : has_meta P (content (replayed P f)) ≡ true → (opening P f frames).world.mem.table ≡ insert_all (log_table P f.log) (clog_table f.clog)
    unfolding with_meta full_table
    meta-table h = rw (accepted P f frames ok, world-meta P f frames h)

    -- the same id by id, from the bytes
    pub meta-word : has_meta P (content (replayed P f)) ≡ true → (k : ℕ) →
        status_of k (opening P f frames).world.mem.table
        ≡ or_known (settled_known (last_word k (records P f.log))) (cond (valid_clog f.clog) (known_as (slot_of 8 (content f.clog) k)) None)
    unfolding full_table
    meta-word h k = rw (meta-table h) (full-word k ∙ rw (log-word P f.log k, clog-word f.clog k))

    -- without a meta page it is the log's alone
    pub plain-table : has_meta P (content (replayed P f)) ≡ false → (opening P f frames).world.mem.table ≡ log_table P f.log
    unfolding without_meta
    plain-table h = rw (accepted P f frames ok, world-plain P f frames h)
