-- A call, planned: its stores in order. A page's bytes are those of a frame, named by its slot in the frame buffer; what the stores mean in the store as
-- lists is told over the page size P and the frame buffer. Of a plan's pages the first n count, and no more than 64. Assumes nothing.
--
--   begin     begin record, clog
--   flush     the pages logged, the pages written
--   commit    the pages logged, commit record, the pages written, clog, checkpoint, truncation, meta
--   rollback  abort record, clog; only if there are pages, they are logged, then written, then checkpoint and truncation; meta
--   advance   compaction, meta
use Rattle.std.specs.Prelude.{ℕ, zero, suc, min, List, [], ◌∷◌, ◌++◌, map, get_or}
use Rattle.wal.specs.Records.{image, begin, commit, abort, checkpoint}
use Rattle.table.specs.declared.Status.TheVariants.{Active, Committed, Aborted}
use Rattle.meta.specs.Page.{meta_page}
use Rattle.frames.specs.Copies.{frame_of}
use Rattle.world.specs.Steps as world
use Rattle.stores.specs.declared.Plan.{Plan}
use Rattle.stores.specs.declared.Kind.{Kind}
use Rattle.stores.specs.declared.Kind.TheVariants.{Nothing, Begin, Flush, Commit, Rollback, Advance}
use Rattle.stores.specs.declared.Step.{Step}
use Rattle.stores.specs.declared.Step.TheVariants.{LogImage, LogBegin, LogCommit, LogAbort, LogCheckpoint, WritePage, WriteMeta, SetSlot, Compact, Truncate}

-- g 0, g 1, .. , n of them
unfoldable pub tabulate : {A : Type 0} → ℕ → (ℕ → A) → List A
tabulate zero g = []
tabulate (suc n) g = g 0 ∷ tabulate n (λ i. g (suc i))

-- the i-th page as an image in the log, and written to its place; and meta
abbrev pub image_step : Plan → ℕ → Step
image_step p i = LogImage (get_or p.pages i 0) (get_or p.slots i 0)

abbrev pub page_step : Plan → ℕ → Step
page_step p i = WritePage (get_or p.pages i 0) (get_or p.slots i 0)

abbrev pub meta_step : Plan → Step
meta_step p = WriteMeta p.meta

-- ---- the stores of each kind; n pages count

unfoldable pub begin_steps : Plan → List Step
begin_steps p = LogBegin p.id ∷ SetSlot p.id Active ∷ []

unfoldable pub flush_steps : ℕ → Plan → List Step
flush_steps n p = tabulate n (image_step p) ++ tabulate n (page_step p)

abbrev pub closing : Plan → List Step
closing p = SetSlot p.id (Committed p.time) ∷ LogCheckpoint ∷ Truncate ∷ meta_step p ∷ []

unfoldable pub commit_steps : ℕ → Plan → List Step
commit_steps n p = tabulate n (image_step p) ++ (LogCommit p.id p.time ∷ (tabulate n (page_step p) ++ closing p))

unfoldable pub data_steps : ℕ → Plan → List Step
data_steps zero p = []
data_steps (suc m) p = tabulate (suc m) (image_step p) ++ (tabulate (suc m) (page_step p) ++ (LogCheckpoint ∷ Truncate ∷ []))

unfoldable pub rollback_steps : ℕ → Plan → List Step
rollback_steps n p = LogAbort p.id ∷ SetSlot p.id Aborted ∷ (data_steps n p ++ (meta_step p ∷ []))

unfoldable pub advance_steps : Plan → List Step
advance_steps p = Compact p.meta.mark ∷ meta_step p ∷ []

abbrev pub kind_steps : Kind → ℕ → Plan → List Step
kind_steps Nothing n p = []
kind_steps Begin n p = begin_steps p
kind_steps Flush n p = flush_steps n p
kind_steps Commit n p = commit_steps n p
kind_steps Rollback n p = rollback_steps n p
kind_steps Advance n p = advance_steps p

unfoldable pub steps_of : Plan → List Step
steps_of p = kind_steps p.kind (min p.n 64) p

-- ---- what they mean

unfoldable pub meaning : ℕ → List ℕ → Step → world.Step
meaning P frames (LogImage p k) = world.Log (image p (frame_of P frames k))
meaning P frames (LogBegin id) = world.Log (begin id.0)
meaning P frames (LogCommit id time) = world.Log (commit id.0 time.0)
meaning P frames (LogAbort id) = world.Log (abort id.0)
meaning P frames LogCheckpoint = world.Log checkpoint
meaning P frames (WritePage p k) = world.Page p (frame_of P frames k)
meaning P frames (WriteMeta m) = world.Page 0 (meta_page P m.next.0 m.time.0 m.mark.0)
meaning P frames (SetSlot id s) = world.SetSlot id.0 s
meaning P frames (Compact w) = world.Compact w.0
meaning P frames Truncate = world.Truncate

unfoldable pub meant : ℕ → List ℕ → Plan → List world.Step
meant P frames p = map (meaning P frames) (steps_of p)
