-- `frames::frames_formed` meets its contract: within the limit, no page twice, and none that is no page's. Assumes nothing.
use mathlib.Core.Path.{◌≡◌}
use mathlib.Core.Bool.{◌&&◌}
use native.Mathlib.Omega.{arith}
use borrow.Author.Tests.{le-leb, lt-leb}
use lib.Dec.{leb}
use Rattle.frames.specs.Pages.{resident_of, distinct, frame_count}
use Rattle.frames.proofs.Values.{frames-tested}
use Rattle.frames.proofs.frames_formed.Goals as goal
use Rattle.frames.proofs.frames_formed.Goals.{then-f-frame_count, else-f-frame_count}

pub returns-then-are_distinct : goal.returns-then-are_distinct
returns-then-are_distinct c =
    let f = c.args.f in
    let n = frame_count 64 4096 c.args.size in
    let v : c.if-f-frame_count.value ≡ (leb f.count n && distinct (resident_of f)) =
    elim c.if-f-frame_count.branch [
      | then-f-frame_count w ↦ rw (w.value-is, w.are_distinct.ensures, c.held-pages.ensures.list, le-leb f.count n (omega (arith, c.frame_count.ensures, w.if-f-frame_count.true)))
      | else-f-frame_count w ↦ rw (w.value-is, c.frame_count.ensures, lt-leb f.count n (omega (arith, c.frame_count.ensures, w.if-f-frame_count.false)))
    ] in
    rw (frames-tested 64 4096 f c.args.size _ v, c.if-are_distinct.true, c.any_bad.ensures, c.held-pages.ensures.list)

pub returns-else-are_distinct : goal.returns-else-are_distinct
returns-else-are_distinct c =
    let f = c.args.f in
    let n = frame_count 64 4096 c.args.size in
    let v : c.if-f-frame_count.value ≡ (leb f.count n && distinct (resident_of f)) =
    elim c.if-f-frame_count.branch [
      | then-f-frame_count w ↦ rw (w.value-is, w.are_distinct.ensures, c.held-pages.ensures.list, le-leb f.count n (omega (arith, c.frame_count.ensures, w.if-f-frame_count.true)))
      | else-f-frame_count w ↦ rw (w.value-is, c.frame_count.ensures, lt-leb f.count n (omega (arith, c.frame_count.ensures, w.if-f-frame_count.false)))
    ] in
    rw (frames-tested 64 4096 f c.args.size _ v, c.if-are_distinct.false)
