-- What begin and a flush inside a transaction leave in the store, in the code's terms. Assumes nothing.
use Rattle.std.specs.Prelude.{ℕ}
use Rattle.fields.specs.declared.TransactionId.{TransactionId}
use Rattle.table.specs.declared.Table.{Table}
use Rattle.frames.specs.Pages.{marked}
use Rattle.world.specs.declared.Slot.TheVariants.{Installed}
use Rattle.world.specs.Run.{decided}
use Rattle.form.specs.declared.Store.{Store}
use Rattle.form.specs.Store.{with_array}
use Rattle.ready.specs.declared.Ready.{Ready}
use Rattle.ready.specs.Ready.{idle}

-- a transaction in, with no page touched, and this table
unfoldable pub begun_store : Store → TransactionId → Table → Store
begun_store s id t =
    record {
      lens = s.lens;
      pages = s.pages;
      next = s.next;
      time = s.time;
      mark = s.mark;
      table = t;
      frames = s.frames;
      held = record { slot = Installed id; touched = record { pages = s.held.touched.pages; count = 0 } };
    }

-- a page marked touched, or 11
unfoldable pub marked_as : Store → ℕ → Ready
marked_as s p =
    let x = marked 64 s.held.touched p in
    decided x.number (idle 0 (with_array s x.touched)) (idle x.number s)
