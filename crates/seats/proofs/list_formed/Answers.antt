-- `seats::list_formed` meets its contract: within the limit, ascending, and none that is no page's. Assumes nothing.
use mathlib.Core.Path.{◌≡◌}
use mathlib.Core.Bool.{◌&&◌}
use native.Mathlib.Omega.{arith}
use borrow.Author.Tests.{le-leb, lt-leb}
use lib.Dec.{leb}
use lib.ListN.{length, take}
use lib.Seq.{take_all}
use Rattle.frames.specs.Pages.{ascending}
use Rattle.frames.proofs.Values.{touched-tested}
use Rattle.seats.specs.Seats.{touched_in}
use Rattle.seats.proofs.list_formed.Goals as goal
use Rattle.seats.proofs.list_formed.Goals.{then-pages-le-LIMIT, else-pages-le-LIMIT}

pub returns-then-is_climbing : goal.returns-then-is_climbing
returns-then-is_climbing c =
    let a = c.args in
    let l = a.pages.now in
    let whole : take (length l) l ≡ l = take_all (length l) l (omega arith) in
    let v : c.if-pages-le-LIMIT.value ≡ (leb (length l) 64 && ascending (take (length l) l)) =
    elim c.if-pages-le-LIMIT.branch [
      | then-pages-le-LIMIT w ↦ rw (whole, w.value-is, w.is_climbing.ensures, le-leb (length l) 64 w.if-pages-le-LIMIT.true)
      | else-pages-le-LIMIT w ↦ rw (w.value-is, lt-leb (length l) 64 w.if-pages-le-LIMIT.false)
    ] in
    rw (touched-tested 64 (touched_in l (length l)) _ v, c.if-is_climbing.true, whole, c.any_bad.ensures)

pub returns-else-is_climbing : goal.returns-else-is_climbing
returns-else-is_climbing c =
    let a = c.args in
    let l = a.pages.now in
    let whole : take (length l) l ≡ l = take_all (length l) l (omega arith) in
    let v : c.if-pages-le-LIMIT.value ≡ (leb (length l) 64 && ascending (take (length l) l)) =
    elim c.if-pages-le-LIMIT.branch [
      | then-pages-le-LIMIT w ↦ rw (whole, w.value-is, w.is_climbing.ensures, le-leb (length l) 64 w.if-pages-le-LIMIT.true)
      | else-pages-le-LIMIT w ↦ rw (w.value-is, lt-leb (length l) 64 w.if-pages-le-LIMIT.false)
    ] in
    rw (touched-tested 64 (touched_in l (length l)) _ v, c.if-is_climbing.false)
