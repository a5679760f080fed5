-- The orders of stores that Q-7 rests on, each in a wrong one, cut where it breaks the request. 5 is begun, writes 7 to page 2 and touches it; its commit has time 2.
-- Told are the number, the status of 5, the first byte of page 2, and the torn record met. Assumes nothing.
use mathlib.Core.Path.{◌≡◌, refl}
use mathlib.Core.List.{List, [], ◌∷◌, ◌++◌}
use Prim.Native.Nat.{ℕ}
use lib.ListN.{replicate}
use Rattle.fields.specs.Bytes.{bytes_of}
use Rattle.wal.specs.Records.{log_magic, image, commit, checkpoint}
use Rattle.table.specs.declared.Status.TheVariants.{Committed, Aborted}
use Rattle.std.specs.Prelude.{Some}
use Rattle.clog.specs.Slots.{clog_magic}
use Rattle.meta.specs.Page.{meta_magic, meta_page}
use Rattle.world.specs.World.{Files, World}
use Rattle.world.specs.Steps.{Step, Log, Page, SetSlot, Truncate}
use Rattle.world.specs.Calls.{Begin, Write, Flush, images, writes, meta_step, committed}
use Rattle.torn.specs.Torn.{unmet, met}
use Rattle.keyturn.proofs.Runs.{file, tid, at, small, ran, Told, saying, cut_open, two_sectors, old_open}

abbrev open5 : World
open5 = ran (small []) (Begin (tid 5) ∷ Write 2 (7 ∷ []) ∷ Flush 2 ∷ [])

-- the parts of its commit
abbrev logged : List Step
logged = images 64 open5 (2 ∷ [])

abbrev signed : List Step
signed = Log (commit 5 2) ∷ []

abbrev paged : List Step
paged = writes 64 open5 (2 ∷ [])

abbrev slotted : List Step
slotted = SetSlot 5 (Committed (record { 0 = 2 })) ∷ []

abbrev emptied : List Step
emptied = Log checkpoint ∷ Truncate ∷ []

abbrev ended : List Step
ended = meta_step 64 (committed (tid 5) open5.mem) ∷ []

cut_here : List Step → ℕ → ℕ → Told
unfolding cut_open ran images writes committed log_magic clog_magic meta_magic meta_page bytes_of
cut_here ss k pos = cut_open 5 open5 ss k pos

-- as it is: with the record whole the id is Committed and the page has its image
right : cut_here (logged ++ (signed ++ (paged ++ (slotted ++ (emptied ++ ended))))) 2 17 ≡ saying 0 (at 2) 7 unmet
unfolding cut_here cut_open ran images writes committed log_magic clog_magic meta_magic meta_page bytes_of
right = refl

-- the record before the images: Committed, and the page has not its image
record-first : cut_here (signed ++ (logged ++ (paged ++ (slotted ++ (emptied ++ ended))))) 1 17 ≡ saying 0 (at 2) 0 unmet
unfolding cut_here cut_open ran images writes committed log_magic clog_magic meta_magic meta_page bytes_of
record-first = refl

-- the truncation before the pages: the record was whole, yet the id is Aborted, and the page has not its image
emptied-first : cut_here (logged ++ (signed ++ (emptied ++ (paged ++ (slotted ++ ended))))) 4 9 ≡ saying 0 (Some Aborted) 0 unmet
unfolding cut_here cut_open ran images writes committed log_magic clog_magic meta_magic meta_page bytes_of
emptied-first = refl

-- the clog after the truncation: the record was whole, yet the id is Aborted
slot-last : cut_here (logged ++ (signed ++ (paged ++ (emptied ++ (slotted ++ ended))))) 5 9 ≡ saying 0 (Some Aborted) 7 unmet
unfolding cut_here cut_open ran images writes committed log_magic clog_magic meta_magic meta_page bytes_of
slot-last = refl

-- the pages before the record, behind their images: at these five cuts what is told is what the request says of a record that comes so late, Aborted before it is whole
-- and Committed from then on; the page has its image. That it is so at every cut is not proved. The statement counts the record as the store after the images, as in ours
pages-first :
    cut_here (logged ++ (paged ++ (signed ++ (slotted ++ (emptied ++ ended))))) 2 1
    ∷ cut_here (logged ++ (paged ++ (signed ++ (slotted ++ (emptied ++ ended))))) 3 0
    ∷ cut_here (logged ++ (paged ++ (signed ++ (slotted ++ (emptied ++ ended))))) 3 16
    ∷ cut_here (logged ++ (paged ++ (signed ++ (slotted ++ (emptied ++ ended))))) 3 17
    ∷ cut_here (logged ++ (paged ++ (signed ++ (slotted ++ (emptied ++ ended))))) 6 1
    ∷ []
    ≡ saying 0 (Some Aborted) 7 unmet
    ∷ saying 0 (Some Aborted) 7 unmet
    ∷ saying 0 (Some Aborted) 7 (met 86 1)
    ∷ saying 0 (at 2) 7 unmet
    ∷ saying 0 (at 0) 7 unmet
    ∷ []
unfolding cut_here cut_open ran images writes committed log_magic clog_magic meta_magic meta_page bytes_of
pages-first = refl

-- ---- a page before its image, in a flush or a rollback: after its first sector the page is neither the old one nor the image

abbrev two : Files
two = record { log = file 600 log_magic; db = file 0 (meta_page 576 6 2 0 ++ replicate 576 0); clog = file 0 clog_magic }

abbrev sevens : List ℕ
sevens = replicate 576 7

image-first : two_sectors two (Log (image 1 sevens) ∷ Page 1 sevens ∷ []) 2 1 ≡ 0 ∷ 7 ∷ 7 ∷ []
unfolding two_sectors log_magic clog_magic meta_magic meta_page bytes_of
image-first = refl

page-first : two_sectors two (Page 1 sevens ∷ Log (image 1 sevens) ∷ []) 1 1 ≡ 0 ∷ 7 ∷ 0 ∷ []
unfolding two_sectors log_magic clog_magic meta_magic meta_page bytes_of
page-first = refl

-- ---- a mode that refuses a torn record, which is the old one: a begin cut after its first byte leaves a store that does not open

refused : old_open (record { log = file 600 (log_magic ++ (2 ∷ [])); db = file 640 (meta_page 64 6 2 0); clog = file 16 clog_magic }) ≡ 2
unfolding old_open log_magic clog_magic meta_magic meta_page bytes_of
refused = refl
