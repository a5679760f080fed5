-- Laws of a plan's list of stores: how many there are, and which stands at each place. Assumes nothing.
use mathlib.Core.Path.{◌≡◌, refl, ap, ◌∙◌}
use mathlib.Core.List.{List, [], ◌∷◌, ◌++◌, append_assoc}
use Prim.Native.Nat.{ℕ, zero, suc, ◌+◌, ◌*◌, ◌≤◌, ◌<◌, min}
use native.Mathlib.Nat.{not-suc-le-zero, le_of_suc-le-suc}
use native.Mathlib.Omega.{arith}
use lib.ListN.{length, get_or, length-append, get_or-append, get_or-eq_default}
use lib.Seq.{get_or-append-add}
use Rattle.stores.specs.declared.Plan.{Plan}
use Rattle.stores.specs.declared.Kind.{Kind}
use Rattle.stores.specs.declared.Kind.TheVariants.{Nothing, Begin, Flush, Commit, Rollback, Advance}
use Rattle.stores.specs.declared.Step.{Step}
use Rattle.stores.specs.declared.Step.TheVariants.{LogCommit, LogCheckpoint, Truncate}
use Rattle.stores.specs.Plans.{tabulate, image_step, page_step, meta_step, closing, begin_steps, flush_steps, commit_steps, data_steps, rollback_steps, advance_steps, kind_steps, steps_of}

-- ---- runs of pages

module _ {A : Type 0} where
  pub length-tabulate : (n : ℕ) (g : ℕ → A) → length (tabulate n g) ≡ n
  unfolding tabulate
  length-tabulate zero g = refl
  length-tabulate (suc n) g = ap suc (length-tabulate n (λ i. g (suc i)))

  pub get_or-tabulate : (n : ℕ) (g : ℕ → A) (i : ℕ) (d : A) → i < n → get_or (tabulate n g) i d ≡ g i
  unfolding tabulate
  get_or-tabulate zero g i d h = absurd (not-suc-le-zero h)
  get_or-tabulate (suc n) g zero d h = refl
  get_or-tabulate (suc n) g (suc i) d h = get_or-tabulate n (λ j. g (suc j)) i d (le_of_suc-le-suc h)

  -- a list that starts with a table: in the table, and past it
  pub in_table : (n : ℕ) (g : ℕ → A) (ys : List A) (i : ℕ) (d : A) → i < n → get_or (tabulate n g ++ ys) i d ≡ g i
  in_table n g ys i d h = get_or-append (tabulate n g) ys d i (rw length-tabulate h) ∙ get_or-tabulate n g i d h

  pub past-table : (n : ℕ) (g : ℕ → A) (ys : List A) (i j : ℕ) (d : A) → i ≡ n + j → get_or (tabulate n g ++ ys) i d ≡ get_or ys j d
  past-table n g ys i j d e =
      let q : i ≡ length (tabulate n g) + j = rw length-tabulate e in
      rw q (get_or-append-add (tabulate n g) ys j d)

-- ---- how many stores

module _ (p : Plan) where
  pub length-flush : (n : ℕ) → length (flush_steps n p) ≡ 2 * n
  unfolding flush_steps
  length-flush n = simp (length-append, length-tabulate) (omega arith)

  pub length-commit : (n : ℕ) → length (commit_steps n p) ≡ 2 * n + 5
  unfolding commit_steps
  length-commit n = simp (length-append, length-tabulate) (omega arith)

  length-data : (n : ℕ) → 0 < n → length (data_steps n p) ≡ 2 * n + 2
  unfolding data_steps
  length-data zero h = absurd (not-suc-le-zero h)
  length-data (suc n) h = simp (length-append, length-tabulate) (omega arith)

  pub length-rollback : (n : ℕ) → 0 < n → length (rollback_steps n p) ≡ 2 * n + 5
  unfolding rollback_steps
  length-rollback n h = omega (arith, length-append (data_steps n p) (meta_step p ∷ []), length-data n h)

  pub length-rollback-none : (n : ℕ) → n ≡ 0 → length (rollback_steps n p) ≡ 3
  unfolding rollback_steps data_steps
  length-rollback-none n e = rw e

  rollback-most : (n : ℕ) → length (rollback_steps n p) ≤ 2 * n + 5
  rollback-most zero = omega (arith, length-rollback-none zero refl)
  rollback-most (suc n) = omega (arith, length-rollback (suc n) (omega arith))

  kind-most : (k : Kind) (n : ℕ) → length (kind_steps k n p) ≤ 2 * n + 5
  unfolding begin_steps advance_steps
  kind-most Nothing n = omega arith
  kind-most Begin n = omega arith
  kind-most Flush n = omega (arith, length-flush n)
  kind-most Commit n = omega (arith, length-commit n)
  kind-most Rollback n = rollback-most n
  kind-most Advance n = omega arith

  pub most-steps : length (steps_of p) ≤ 133
  unfolding steps_of
  most-steps = omega (arith, kind-most p.kind (min p.n 64))

  -- by the kind of call, and by how many pages count
  pub by_kind : (k : Kind) (n : ℕ) → p.kind ≡ k → n ≡ min p.n 64 → steps_of p ≡ kind_steps k n p
  unfolding steps_of
  by_kind k n e q = rw (e, q)

-- document 01's counts of a plan of n pages, 64 at most
module _ (p : Plan) (few : p.n ≤ 64) where
  all : p.n ≡ min p.n 64
  all = omega arith

  pub nothing-count : p.kind ≡ Nothing → length (steps_of p) ≡ 0
  nothing-count e = ap length (by_kind p Nothing p.n e all)

  pub begin-count : p.kind ≡ Begin → length (steps_of p) ≡ 2
  unfolding begin_steps
  begin-count e = ap length (by_kind p Begin p.n e all)

  pub flush-count : p.kind ≡ Flush → length (steps_of p) ≡ 2 * p.n
  flush-count e = ap length (by_kind p Flush p.n e all) ∙ length-flush p p.n

  pub commit-count : p.kind ≡ Commit → length (steps_of p) ≡ 2 * p.n + 5
  commit-count e = ap length (by_kind p Commit p.n e all) ∙ length-commit p p.n

  pub rollback-count : p.kind ≡ Rollback → 0 < p.n → length (steps_of p) ≡ 2 * p.n + 5
  rollback-count e h = ap length (by_kind p Rollback p.n e all) ∙ length-rollback p p.n h

  pub rollback-count-none : p.kind ≡ Rollback → p.n ≡ 0 → length (steps_of p) ≡ 3
  rollback-count-none e z = ap length (by_kind p Rollback p.n e all) ∙ length-rollback-none p p.n z

  pub advance-count : p.kind ≡ Advance → length (steps_of p) ≡ 2
  unfolding advance_steps
  advance-count e = ap length (by_kind p Advance p.n e all)

-- ---- the stores of a flush, by place

module _ (p : Plan) (n : ℕ) where
  pub flush-image : (i : ℕ) → i < n → get_or (flush_steps n p) i Truncate ≡ image_step p i
  unfolding flush_steps
  flush-image i h = in_table n (image_step p) (tabulate n (page_step p)) i Truncate h

  pub flush-page : (i j : ℕ) → i ≡ n + j → j < n → get_or (flush_steps n p) i Truncate ≡ page_step p j
  unfolding flush_steps
  flush-page i j e h = past-table n (image_step p) (tabulate n (page_step p)) i j Truncate e ∙ get_or-tabulate n (page_step p) j Truncate h

  pub flush-past : (i : ℕ) → 2 * n ≤ i → get_or (flush_steps n p) i Truncate ≡ Truncate
  flush-past i h = get_or-eq_default (flush_steps n p) Truncate (rw length-flush h)

-- ---- the stores of a commit, by place

module _ (p : Plan) (n : ℕ) where
  writes : List Step
  writes = tabulate n (page_step p) ++ closing p

  pub at-image : (i : ℕ) → i < n → get_or (commit_steps n p) i Truncate ≡ image_step p i
  unfolding commit_steps writes
  at-image i h = in_table n (image_step p) (LogCommit p.id p.time ∷ writes) i Truncate h

  pub at-commit : (i : ℕ) → i ≡ n → get_or (commit_steps n p) i Truncate ≡ LogCommit p.id p.time
  unfolding commit_steps writes
  at-commit i e = past-table n (image_step p) (LogCommit p.id p.time ∷ writes) i 0 Truncate (omega arith)

  pub at-page : (i j : ℕ) → i ≡ n + suc j → j < n → get_or (commit_steps n p) i Truncate ≡ page_step p j
  unfolding commit_steps writes
  at-page i j e h =
      past-table n (image_step p) (LogCommit p.id p.time ∷ writes) i (suc j) Truncate e
      ∙ in_table n (page_step p) (closing p) j Truncate h

  pub at-end : (i m : ℕ) → i ≡ 2 * n + suc m → get_or (commit_steps n p) i Truncate ≡ get_or (closing p) m Truncate
  unfolding commit_steps writes
  at-end i m e =
      past-table n (image_step p) (LogCommit p.id p.time ∷ writes) i (suc (n + m)) Truncate (omega arith)
      ∙ past-table n (page_step p) (closing p) (n + m) m Truncate refl

  pub at-meta : (i j : ℕ) → i ≡ 2 * n + 4 + j → get_or (commit_steps n p) i Truncate ≡ get_or (meta_step p ∷ []) j Truncate
  at-meta i j e = at-end i (suc (suc (suc j))) (omega arith)

-- ---- the stores of a rollback, by place

module _ (p : Plan) (n : ℕ) where
  ends : List Step
  ends = LogCheckpoint ∷ Truncate ∷ meta_step p ∷ []

  regrouped : (m : ℕ) → 0 < m → data_steps m p ++ (meta_step p ∷ []) ≡ tabulate m (image_step p) ++ (tabulate m (page_step p) ++ ends)
  unfolding data_steps ends
  regrouped zero h = absurd (not-suc-le-zero h)
  regrouped (suc m) h = simp append_assoc

  pub roll-none : (i j : ℕ) → n ≡ 0 → i ≡ suc (suc j) → get_or (rollback_steps n p) i Truncate ≡ get_or (meta_step p ∷ []) j Truncate
  unfolding rollback_steps data_steps
  roll-none i j z e = rw (e, z)

  roll-data : (i j : ℕ) → 0 < n → i ≡ suc (suc j) → get_or (rollback_steps n p) i Truncate ≡ get_or (tabulate n (image_step p) ++ (tabulate n (page_step p) ++ ends)) j Truncate
  unfolding rollback_steps
  roll-data i j h e = rw (e, regrouped n h)

  pub roll-image : (i j : ℕ) → 0 < n → i ≡ suc (suc j) → j < n → get_or (rollback_steps n p) i Truncate ≡ image_step p j
  roll-image i j h e l = roll-data i j h e ∙ in_table n (image_step p) (tabulate n (page_step p) ++ ends) j Truncate l

  pub roll-page : (i j : ℕ) → 0 < n → i ≡ suc (suc (n + j)) → j < n → get_or (rollback_steps n p) i Truncate ≡ page_step p j
  roll-page i j h e l =
      roll-data i (n + j) h e
      ∙ (past-table n (image_step p) (tabulate n (page_step p) ++ ends) (n + j) j Truncate refl
      ∙ in_table n (page_step p) ends j Truncate l)

  pub roll-end : (i m : ℕ) → 0 < n → i ≡ 2 * n + 2 + m → get_or (rollback_steps n p) i Truncate ≡ get_or (LogCheckpoint ∷ Truncate ∷ meta_step p ∷ []) m Truncate
  unfolding ends
  roll-end i m h e =
      roll-data i (n + (n + m)) h (omega arith)
      ∙ (past-table n (image_step p) (tabulate n (page_step p) ++ ends) (n + (n + m)) (n + m) Truncate refl
      ∙ past-table n (page_step p) ends (n + m) m Truncate refl)

-- ---- what stands after the compaction

pub advance-meta : (p : Plan) (i j : ℕ) → i ≡ suc j → get_or (advance_steps p) i Truncate ≡ get_or (meta_step p ∷ []) j Truncate
unfolding advance_steps
advance-meta p i j e = rw e
