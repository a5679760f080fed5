-- The key turns in the middle, in numbers: a begin and a commit of one page cut at every kind of point; what is lost without each premise; and what is not claimed.
-- Assumes nothing.
use mathlib.Core.Path.{◌≡◌, refl}
use mathlib.Core.List.{[], ◌∷◌}
use Prim.Native.Nat.{ℕ}
use Rattle.fields.specs.Bytes.{bytes_of}
use Rattle.wal.specs.Records.{log_magic}
use Rattle.table.specs.declared.Status.TheVariants.{Aborted}
use Rattle.std.specs.Prelude.{Some, None}
use Rattle.clog.specs.Slots.{clog_magic}
use Rattle.meta.specs.Page.{meta_magic, meta_page}
use Rattle.world.specs.World.{World}
use Rattle.world.specs.Calls.{Call, Install, Begin, Write, Flush, Commit, Advance}
use Rattle.torn.specs.Torn.{unmet, met}
use Rattle.keyturn.proofs.Runs.{tid, at, small, ran, Told, saying, cut_open, time_after, stores_of, points_of}

-- a call cut at (k, pos)
cut_call : ℕ → World → Call → ℕ → ℕ → Told
unfolding cut_open stores_of ran log_magic clog_magic meta_magic meta_page bytes_of
cut_call id w c k pos = cut_open id w (stores_of w c) k pos

abbrev empty : World
empty = ran (small []) []

-- a begin of 5: 9 bytes, then the clog is lengthened to its byte
begin-points : points_of empty (Begin (tid 5)) ≡ 9 ∷ 1 ∷ []
unfolding points_of ran log_magic clog_magic meta_magic meta_page bytes_of
begin-points = refl

begin-cuts :
    cut_call 5 empty (Begin (tid 5)) 0 3
    ∷ cut_call 5 empty (Begin (tid 5)) 1 0
    ∷ cut_call 5 empty (Begin (tid 5)) 1 1
    ∷ cut_call 5 empty (Begin (tid 5)) 1 8
    ∷ cut_call 5 empty (Begin (tid 5)) 1 9
    ∷ cut_call 5 empty (Begin (tid 5)) 1 10
    ∷ cut_call 5 empty (Begin (tid 5)) 2 0
    ∷ cut_call 5 empty (Begin (tid 5)) 2 1
    ∷ cut_call 5 empty (Begin (tid 5)) 2 2
    ∷ cut_call 5 empty (Begin (tid 5)) 3 0
    ∷ []
    ≡ saying 0 None 0 unmet
    ∷ saying 0 None 0 unmet
    ∷ saying 0 None 0 (met 8 8)
    ∷ saying 0 None 0 (met 8 1)
    ∷ saying 0 (Some Aborted) 0 unmet
    ∷ saying 0 (Some Aborted) 0 unmet
    ∷ saying 0 (Some Aborted) 0 unmet
    ∷ saying 0 (Some Aborted) 0 unmet
    ∷ saying 0 (Some Aborted) 0 unmet
    ∷ saying 0 (Some Aborted) 0 unmet
    ∷ []
unfolding cut_call cut_open stores_of ran log_magic clog_magic meta_magic meta_page bytes_of
begin-cuts = refl

-- 5 is begun, writes page 2 and touches it
abbrev open5 : World
open5 = ran (small []) (Begin (tid 5) ∷ Write 2 (7 ∷ []) ∷ Flush 2 ∷ [])

-- its commit: image, record, page (lengthened first), slot (its byte is there), checkpoint, truncation, page 0
commit-points : points_of open5 Commit ≡ 69 ∷ 17 ∷ 2 ∷ 0 ∷ 1 ∷ 9 ∷ 1 ∷ []
unfolding points_of ran log_magic clog_magic meta_magic meta_page bytes_of
commit-points = refl

commit-cuts :
    cut_call 5 open5 Commit 1 0
    ∷ cut_call 5 open5 Commit 1 68
    ∷ cut_call 5 open5 Commit 1 69
    ∷ cut_call 5 open5 Commit 2 16
    ∷ cut_call 5 open5 Commit 2 17
    ∷ cut_call 5 open5 Commit 3 1
    ∷ cut_call 5 open5 Commit 3 2
    ∷ cut_call 5 open5 Commit 4 0
    ∷ cut_call 5 open5 Commit 4 1
    ∷ cut_call 5 open5 Commit 5 1
    ∷ cut_call 5 open5 Commit 6 1
    ∷ cut_call 5 open5 Commit 6 8
    ∷ cut_call 5 open5 Commit 6 9
    ∷ cut_call 5 open5 Commit 7 1
    ∷ cut_call 5 open5 Commit 8 0
    ∷ []
    ≡ saying 0 (Some Aborted) 0 unmet
    ∷ saying 0 (Some Aborted) 0 (met 17 1)
    ∷ saying 0 (Some Aborted) 7 unmet
    ∷ saying 0 (Some Aborted) 7 (met 86 1)
    ∷ saying 0 (at 2) 7 unmet
    ∷ saying 0 (at 2) 7 unmet
    ∷ saying 0 (at 2) 7 unmet
    ∷ saying 0 (at 2) 7 unmet
    ∷ saying 0 (at 2) 7 unmet
    ∷ saying 0 (at 2) 7 unmet
    ∷ saying 0 (at 0) 7 unmet
    ∷ saying 0 (at 0) 7 unmet
    ∷ saying 0 (at 0) 7 unmet
    ∷ saying 0 (at 0) 7 unmet
    ∷ saying 0 (at 0) 7 unmet
    ∷ []
unfolding cut_call cut_open stores_of ran log_magic clog_magic meta_magic meta_page bytes_of
commit-cuts = refl

-- without a premise. A commit of 16, which is not held: it is absent, not Aborted. A begin of 6 below the mark 7: it was held Committed and is absent. Page 0
-- touched: its image has no magic, so that 1, Committed in the clog, is gone
without :
    cut_call 16 (ran (small []) (Install (tid 16) [] ∷ [])) Commit 1 0
    ∷ cut_call 6 (ran (small (0 ∷ 32 ∷ [])) (Advance (tid 7) ∷ [])) (Begin (tid 6)) 1 0
    ∷ cut_call 1 (ran (small (8 ∷ [])) (Begin (tid 5) ∷ Write 0 [] ∷ Flush 0 ∷ [])) Commit 1 68
    ∷ cut_call 1 (ran (small (8 ∷ [])) (Begin (tid 5) ∷ Write 0 [] ∷ Flush 0 ∷ [])) Commit 1 69
    ∷ []
    ≡ saying 0 None 0 unmet
    ∷ saying 0 None 0 unmet
    ∷ saying 0 (at 0) 0 (met 17 1)
    ∷ saying 0 None 0 unmet
    ∷ []
unfolding cut_call cut_open stores_of ran log_magic clog_magic meta_magic meta_page bytes_of
without = refl

-- not claimed: the commit at time 2, cut with the log's length 0, counts (above), and the next commit time is 2 once more; when page 0 is written it is 3
time-again : time_after open5 (stores_of open5 Commit) 6 1 ∷ time_after open5 (stores_of open5 Commit) 7 1 ∷ [] ≡ 2 ∷ 3 ∷ []
unfolding time_after stores_of ran log_magic clog_magic meta_magic meta_page bytes_of
time-again = refl
