-- What begin leaves in the head, and how a flush inside a transaction is made ready. Assumes nothing.
use Rattle.std.specs.Prelude.{ℕ, List}
use Rattle.fields.specs.declared.TransactionId.{TransactionId}
use Rattle.frames.specs.Pages.{marked}
use Rattle.seats.specs.Seats.{touched_in}
use Rattle.world.specs.Run.{decided}
use Rattle.lent.specs.declared.Head.{Head}
use Rattle.acts.specs.declared.Change.TheVariants.{Same, Touch}
use Rattle.acts.specs.declared.Made.{Made}
use Rattle.acts.specs.Made.{bare_made}

-- a transaction in, with no page touched
unfoldable pub begun_head : Head → TransactionId → Head
begun_head h id =
    record {
      lens = h.lens;
      pages = h.pages;
      next = h.next;
      time = h.time;
      mark = h.mark;
      held = 1;
      id = id;
      entries = h.entries;
      resident = h.resident;
      touched = 0;
    }

-- a page marked touched, or 11
unfoldable pub marked_made : Head → List ℕ → ℕ → Made
marked_made h touched p =
    let n = (marked 64 (touched_in touched h.touched) p).number in
    decided n (bare_made 0 (Touch p) h) (bare_made n Same h)
