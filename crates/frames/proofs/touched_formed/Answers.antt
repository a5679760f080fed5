-- `frames::touched_formed` meets its contract: within the limit, ascending, and none that is no page's. Assumes nothing.
use mathlib.Core.Path.{◌≡◌}
use mathlib.Core.Bool.{◌&&◌}
use borrow.Author.Tests.{le-leb, lt-leb}
use lib.Dec.{leb}
use Rattle.frames.specs.Pages.{touched_of, ascending}
use Rattle.frames.proofs.Values.{touched-tested}
use Rattle.frames.proofs.touched_formed.Goals as goal
use Rattle.frames.proofs.touched_formed.Goals.{then-t-le-LIMIT, else-t-le-LIMIT}

pub returns-then-are_ascending : goal.returns-then-are_ascending
returns-then-are_ascending c =
    let t = c.args.t in
    let v : c.if-t-le-LIMIT.value ≡ (leb t.count 64 && ascending (touched_of t)) =
    elim c.if-t-le-LIMIT.branch [
      | then-t-le-LIMIT w ↦ rw (w.value-is, w.are_ascending.ensures, c.held-pages.ensures.list, le-leb t.count 64 w.if-t-le-LIMIT.true)
      | else-t-le-LIMIT w ↦ rw (w.value-is, lt-leb t.count 64 w.if-t-le-LIMIT.false)
    ] in
    rw (touched-tested 64 t _ v, c.if-are_ascending.true, c.any_bad.ensures, c.held-pages.ensures.list)

pub returns-else-are_ascending : goal.returns-else-are_ascending
returns-else-are_ascending c =
    let t = c.args.t in
    let v : c.if-t-le-LIMIT.value ≡ (leb t.count 64 && ascending (touched_of t)) =
    elim c.if-t-le-LIMIT.branch [
      | then-t-le-LIMIT w ↦ rw (w.value-is, w.are_ascending.ensures, c.held-pages.ensures.list, le-leb t.count 64 w.if-t-le-LIMIT.true)
      | else-t-le-LIMIT w ↦ rw (w.value-is, lt-leb t.count 64 w.if-t-le-LIMIT.false)
    ] in
    rw (touched-tested 64 t _ v, c.if-are_ascending.false)
